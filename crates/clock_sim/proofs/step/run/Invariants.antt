use Rattle.std.proofs.Common.{◌≡◌, length, drop}
use Rattle.clock_sim.specs.Steps.{run}
use Rattle.clock_sim.specs.Flat.{AreReading}
use Rattle.clock_sim.specs.Orders.{opcodes_in, opcodes_of}
use Rattle.clock_sim.proofs.step.run.Given as goal

abbrev pub invariant-loop-group : goal.invariant-loop-group
invariant-loop-group l = record {
  groups : opcodes_of (drop l.group-index l.groups) ≡ opcodes_in l.left;
  reading : AreReading (length l.slots) l.left;
  made : run l.contents l.left l.slots ≡ run l.contents l.steps l.initial.slots;
}
