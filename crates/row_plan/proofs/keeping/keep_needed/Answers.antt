use Rattle.std.proofs.Common.{rules, ◌≡◌, ◌∙◌, length, map, sym}
use Rattle.std.proofs.lemmas.List.{length-map}
use Rattle.cell_core.specs.View.{cell_of, site_of, program_of}
use Rattle.row_plan.proofs.KeepingLemmas.{are_kept}
use Rattle.row_plan.proofs.keeping.keep_needed.Goals as goal

pub returns-clause-kept : goal.returns-clause-kept
returns-clause-kept c =
    let p = c.args.program.now in
    let cells = map cell_of p.cells.items in
    let sites = map site_of p.sites.items in
    let many : length c.deref.result.now ≡ length cells = search (rules, sym (length-map p.cells.items cell_of)) in
    are_kept (program_of p) c.args.rows.now c.args.commit c.args.last c.keep_inputs.new.kept c.keep_writes.new.kept c.keep_sites.new.kept c.keep_answer.new.kept
    (c.requires.count ∙ sym (length-map p.cells.items cell_of))
    (search (rules, c.keep_inputs.ensures, many)) (search (rules, c.keep_writes.ensures, many)) (search (rules, c.keep_sites.ensures)) (search (rules, c.keep_answer.ensures))
