use Rattle.std.proofs.Common.{◌∙◌, refl, ap}
use Rattle.row_rules.specs.NodeRows.Passing.{origin_behind, noted}
use Rattle.row_rules.proofs.PlaceRows.PlaceLaws.{all_places}
use Rattle.row_rules.proofs.node_rows.node.origins_behind.Goals as goal

pub returns : goal.returns
returns c = all_places (origin_behind c.args.decls.now c.args.kinds.now c.args.after.now c.args.insn.now c.args.maker c.args.guard c.args.before.now.places) c.note.new.origins.places c.are_all.ensures
    (λ i l. c.note.ensures i l ∙ ap (noted c.args.before.now.places c.record_of.result c.args.maker c.least_row-least.result i) (c.write_spans.ensures i l)
    ∙ rw (c.record_of.ensures, c.least_row-least.ensures, c.result_row-row.ensures, c.writes-places.ensures) refl)
