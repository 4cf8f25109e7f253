use Rattle.std.proofs.Common.{rules, ◌≡◌, ◌∙◌, ℕ, max, slice_index, ap, sym}
use Rattle.cell_core.specs.Rows.{greatest}
use Rattle.cell_core.proofs.RowLaws.{greatest_append}
use Rattle.row_plan.proofs.RowLemmas.{max_more}
use Rattle.row_plan.proofs.rows.taken_row.Goals as goal

pub returns : goal.returns
returns c =
    let row : ℕ → ℕ = slice_index c.args.rows.now in
    let site = c.args.site.now in
    let key : c.greatest.result ≡ greatest row site.key.items = c.greatest.ensures ∙ ap (greatest row) c.deref.ensures in
    let operands : c.greatest-2.result ≡ greatest row site.operands.items = c.greatest-2.ensures ∙ ap (greatest row) c.deref-2.ensures in
    let first : c.max.result ≡ max (row site.guard) (greatest row site.key.items) = search (rules, key) in
    let second : c.max-2.result ≡ max c.max.result (greatest row site.operands.items) = search (rules, operands) in
    second ∙ max_more (row site.guard) (greatest row site.key.items) c.max.result (greatest row site.operands.items) first
    ∙ ap (max (row site.guard)) (sym (greatest_append row site.key.items site.operands.items))
