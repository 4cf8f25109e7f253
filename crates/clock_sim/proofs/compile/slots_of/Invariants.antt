use Rattle.std.proofs.Common.{◌≡◌, ◌++◌, drop}
use Rattle.clock_sim.specs.Layouts.{slots_in}
use Rattle.clock_sim.proofs.compile.slots_of.Given as goal

abbrev pub invariant-loop-operand : goal.invariant-loop-operand
invariant-loop-operand l = l.slots.items ++ slots_in (drop l.operand-index l.operands) ≡ slots_in l.operands
