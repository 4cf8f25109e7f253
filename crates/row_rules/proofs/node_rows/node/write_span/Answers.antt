use Rattle.std.proofs.Common.{◌∙◌, Bool, if◌then◌else◌, Some, None, get_or, sym, ap, arith}
use Rattle.std.proofs.Math.Bool.{or-false}
use Rattle.row_rules.specs.PlaceRows.Origins.{has_data}
use Rattle.row_rules.specs.PlaceRows.Spans.{is_in}
use Rattle.row_rules.proofs.PlaceRows.PlaceLaws.{until}
use Rattle.row_rules.proofs.node_rows.node.write_span.Goals as goal

pub returns : goal.returns
returns c = λ i l. c.loop-place.invariant.each i l
    ∙ ap (λ (b : Bool). if b then (if has_data c.args.after.now i then Some c.args.origin else None) else get_or c.args.origins.now.places i None)
    (until c.args.span.from c.args.span.end c.loop-place.place i (omega (arith, c.loop-place-test.false)) c.loop-place.invariant.until ∙ sym (or-false (is_in i c.args.span)))
