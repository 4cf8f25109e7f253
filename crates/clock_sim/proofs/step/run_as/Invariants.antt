use Rattle.std.proofs.Common.{◌≡◌, length, drop}
use Rattle.clock_sim.specs.Steps.{run}
use Rattle.clock_sim.specs.Flat.{AreReading}
use Rattle.clock_sim.specs.Orders.{AreOf}
use Rattle.clock_sim.proofs.step.run_as.Given as goal

abbrev pub invariant-loop-step : goal.invariant-loop-step
invariant-loop-step l = record {
  reading : AreReading (length l.slots) (drop l.step-index l.steps);
  opcode : AreOf l.opcode (drop l.step-index l.steps);
  made : run l.contents (drop l.step-index l.steps) l.slots ≡ run l.contents l.steps l.initial.slots;
}
