use Rattle.std.proofs.Common.{◌≡◌, ◌++◌, drop}
use Rattle.clock_sim.specs.Layouts.{constants_in}
use Rattle.clock_sim.proofs.compile.constants_of.Given as goal

abbrev pub invariant-loop-slot : goal.invariant-loop-slot
invariant-loop-slot l = l.numbers.items ++ constants_in (drop l.slot-index l.slots) ≡ constants_in l.slots
