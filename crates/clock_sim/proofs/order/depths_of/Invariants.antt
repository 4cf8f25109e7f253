use Rattle.std.proofs.Common.{◌≡◌, ℕ, ◌≤◌, length, drop, get_or}
use Rattle.clock_sim.specs.Flat.{AreReading, Climb}
use Rattle.clock_sim.proofs.OrderLemmas.{depths_after}
use Rattle.clock_sim.proofs.order.depths_of.Given as goal

abbrev pub invariant-loop-step : goal.invariant-loop-step
invariant-loop-step l = record {
  from : ℕ;
  climb : Climb from (drop l.step-index l.steps);
  reading : AreReading (length l.depths.items) (drop l.step-index l.steps);
  low : (k : ℕ) → get_or l.depths.items k 0 ≤ k;
  made : depths_after (drop l.step-index l.steps) l.depths.items ≡ depths_after l.steps l.initial.depths.items;
}
