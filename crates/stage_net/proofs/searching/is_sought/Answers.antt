use Rattle.std.proofs.Common.{◌∙◌, sym, ap, slice_index}
use Rattle.hazard_core.specs.cell_core.Acts.{finds_key}
use Rattle.hazard_core.specs.cell_core.View.{program_of}
use Rattle.stage_net.proofs.SearchLemmas.{is_true, sought_of}
use Rattle.stage_net.proofs.StepLemmas.{hit_of, no_hit, hit_by}
use Rattle.stage_net.proofs.searching.is_sought.Goals as goal

pub returns-then-not-finds_key-clause-all : goal.returns-then-not-finds_key-clause-all
returns-then-not-finds_key-clause-all c = λ decls bits staged h. sym c.if-not-finds_key.true ∙ c.finds_key.ensures ∙ ap finds_key c.site_at.ensures.act ∙ h.4

pub returns-clause-only : goal.returns-clause-only
returns-clause-only c = λ e.
    let p = program_of c.args.at.now.program.now in
    let row = slice_index c.args.at.now.rows.now in
    let r = c.args.at.now.row in
    let j = c.args.j in
    sought_of p row r j (hit_of p row j c.found_cell-found.result c.answer_cell-answer.result r c.is_read.result c.found_cell-found.ensures c.answer_cell-answer.ensures c.is_read.ensures e) (sym (ap finds_key c.site_at.ensures.act) ∙ sym c.finds_key.ensures ∙ c.if-not-finds_key.false)

pub returns-clause-all : goal.returns-clause-all
returns-clause-all c = λ decls bits staged h.
    let p = program_of c.args.at.now.program.now in
    let row = slice_index c.args.at.now.rows.now in
    let r = c.args.at.now.row in
    let j = c.args.j in
    is_true c.is_read.result (λ e. no_hit p row j c.found_cell-found.result c.answer_cell-answer.result r c.is_read.result c.found_cell-found.ensures c.answer_cell-answer.ensures c.is_read.ensures e (hit_by p row j r bits decls staged h.0 h.1 h.2 h.3))
