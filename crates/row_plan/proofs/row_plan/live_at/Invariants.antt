use Rattle.std.proofs.Common.{◌≡◌, slice_index}
use Rattle.row_plan.specs.Plan.{live_cells}
use Rattle.row_plan.proofs.row_plan.live_at.Given as goal

abbrev pub invariant-loop-number : goal.invariant-loop-number
invariant-loop-number l = l.cells.items ≡ live_cells (slice_index l.rows) (slice_index l.kept) l.at l.number
