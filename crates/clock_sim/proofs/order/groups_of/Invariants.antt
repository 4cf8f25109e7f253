use Rattle.std.specs.Prelude.{replicate}
use Rattle.std.proofs.Common.{◌≡◌, ◌++◌, drop}
use Rattle.clock_sim.specs.Orders.{opcodes_in, opcodes_of}
use Rattle.clock_sim.proofs.order.groups_of.Given as goal

abbrev pub invariant-loop-step : goal.invariant-loop-step
invariant-loop-step l = opcodes_of l.groups.items ++ (replicate l.last.count l.last.opcode ++ opcodes_in (drop l.step-index l.steps)) ≡ opcodes_in l.steps
