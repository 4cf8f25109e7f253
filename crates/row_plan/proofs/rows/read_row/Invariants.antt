use Rattle.std.proofs.Common.{◌≡◌, drop, max, slice_index}
use Rattle.std.proofs.Common.{map as map_list}
use Rattle.cell_core.specs.View.{cell_of}
use Rattle.row_plan.specs.Plan.{read_row}
use Rattle.row_plan.proofs.rows.read_row.Given as goal

abbrev pub invariant-loop-number : goal.invariant-loop-number
invariant-loop-number l = max l.most (read_row (slice_index l.rows) l.number (map_list cell_of (drop l.number l.cells))) ≡ read_row (slice_index l.rows) 0 (map_list cell_of l.cells)
