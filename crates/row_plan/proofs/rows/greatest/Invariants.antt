use Rattle.std.proofs.Common.{◌≡◌, drop, max, slice_index}
use Rattle.cell_core.specs.Rows.{greatest}
use Rattle.row_plan.proofs.rows.greatest.Given as goal

abbrev pub invariant-loop-cell : goal.invariant-loop-cell
invariant-loop-cell l = max l.most (greatest (slice_index l.rows) (drop l.cell-index l.cells)) ≡ greatest (slice_index l.rows) l.cells
