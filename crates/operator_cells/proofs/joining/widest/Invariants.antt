use Rattle.std.proofs.Common.{◌<◌, ◌≤◌, ℕ, get_or}
use Rattle.cell_core.specs.Cells.{cell_at}
use Rattle.operator_cells.specs.declared.joining.Arm.{Arm}
use Rattle.operator_cells.specs.Making.{seen}
use Rattle.operator_cells.proofs.joining.widest.Given as goal

abbrev pub invariant-loop-arm : goal.invariant-loop-arm
invariant-loop-arm l = record {
  wide : (i : ℕ) (d : Arm) → i < l.arm-index → (cell_at (seen l.cells) (get_or l.arms i d).cell).width ≤ l.width;
  most : l.width ≤ 64;
}
