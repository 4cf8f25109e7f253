use Rattle.std.proofs.Common.{◌≡◌, ◌-◌, max, slice_index}
use Rattle.cell_core.specs.Rows.{greatest, numbers, node_row}
use Rattle.row_plan.proofs.rows.node_row.Given as goal

abbrev pub invariant-loop-cell : goal.invariant-loop-cell
invariant-loop-cell l = max l.most (greatest (slice_index l.rows) (numbers l.cell (l.node.end - l.cell))) ≡ node_row (slice_index l.rows) l.fn.node
