use Rattle.std.proofs.Common.{◌≡◌, take}
use Rattle.operator_cells.specs.Joining.{flat}
use Rattle.operator_cells.proofs.joining.flat.Given as goal

abbrev pub invariant-loop-arm : goal.invariant-loop-arm
invariant-loop-arm l = l.ins.items ≡ flat (take l.arm-index l.arms)
