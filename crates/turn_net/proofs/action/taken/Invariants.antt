use Rattle.std.proofs.Common.{◌≡◌, take}
use Rattle.turn_net.specs.Steps.{taken_values}
use Rattle.turn_net.proofs.action.taken.Given as goal

abbrev pub invariant-loop-slot : goal.invariant-loop-slot
invariant-loop-slot g l = l.all.items ≡ taken_values l.shape l.fn.done (take l.slot-index l.slots)
