use Rattle.std.proofs.Common.{◌≡◌, ◌<◌, ℕ, get_or}
use Rattle.operator_cells.specs.declared.joining.Arm.{Arm}
use Rattle.predicate_core.proofs.step_cells.pending.bring_one.Given as goal

abbrev pub invariant-loop-arm : goal.invariant-loop-arm
invariant-loop-arm l = (i : ℕ) (d : Arm) → i < l.arm-index → (get_or l.arms i d).cell ≡ l.cell
