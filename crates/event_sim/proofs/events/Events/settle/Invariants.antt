use Rattle.std.proofs.Common.{◌≡◌, ℕ, ◌<◌}
use Rattle.event_sim.specs.Events.{events_in, swept}
use Rattle.event_sim.proofs.events.Events.settle.Given as goal

abbrev pub invariant-loop-sweeps : goal.invariant-loop-sweeps
invariant-loop-sweeps l = record {
  is : l.self ≡ swept l.fn.self l.order l.sweeps;
  busy : (k : ℕ) → k < l.sweeps → 0 < events_in (swept l.fn.self l.order k) l.order;
}
