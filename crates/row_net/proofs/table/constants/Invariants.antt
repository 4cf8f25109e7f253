use Rattle.std.proofs.Common.{◌≡◌, ◌<◌, ℕ, None, length, map, get_or}
use Rattle.overlay_net.specs.cell_core.Cells.{cell_at}
use Rattle.overlay_net.specs.cell_core.View.{cell_of}
use Rattle.row_net.specs.Table.{IsConstantOf}
use Rattle.row_net.proofs.table.constants.Given as goal

abbrev pub invariant-loop-cell : goal.invariant-loop-cell
invariant-loop-cell g l = record { count : length l.table.items ≡ l.cell-index; each : (k : ℕ) → k < l.cell-index → IsConstantOf (cell_at (map cell_of l.cells) k) (get_or l.table.items k None) }
