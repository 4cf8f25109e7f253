use Rattle.std.proofs.Common.{rules, ◌≡◌, ◌∙◌, ◌-◌, ◌+◌, ℕ, max, sym, ap, slice_index}
use Rattle.cell_core.specs.Rows.{greatest, numbers}
use Rattle.row_plan.proofs.RowLemmas.{greatest_next, max_more}
use Rattle.row_plan.proofs.rows.node_row.Goals as goal

pub loop-cell-preserved : goal.loop-cell-preserved
loop-cell-preserved c =
    let row : ℕ → ℕ = slice_index c.args.rows.now in
    let n : ℕ = c.loop-cell.cell in
    let most : c.max-most.result ≡ max c.loop-cell.most (row n) = search rules in
    max_more c.loop-cell.most (row n) c.max-most.result (greatest row (numbers (n + 1) (c.args.node.now.end - (n + 1)))) most
    ∙ ap (max c.loop-cell.most) (sym (greatest_next row n c.args.node.now.end c.loop-cell-test.true)) ∙ c.loop-cell.invariant
