use Rattle.std.proofs.Common.{◌≡◌, drop, map}
use Rattle.net_core.specs.View.{assign_of}
use Rattle.event_sim.specs.Showing.{stored_for}
use Rattle.event_sim.proofs.outputs.number_for.Given as goal

abbrev pub invariant-loop-at : goal.invariant-loop-at
invariant-loop-at l = stored_for (drop l.at (map assign_of l.assigns)) (drop l.at l.words) l.port ≡ stored_for (map assign_of l.assigns) l.words l.port
