use Rattle.std.proofs.Common.{◌≡◌, ℕ, ◌<◌, false}
use Rattle.event_sim.specs.Events.{is_active}
use Rattle.event_sim.specs.Views.{state_of}
use Rattle.event_sim.proofs.nets.first_active.Given as goal

abbrev pub invariant-loop-net : goal.invariant-loop-net
invariant-loop-net l = (k : ℕ) → k < l.net → is_active (state_of l.design l.values) k ≡ false
