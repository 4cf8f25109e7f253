use Rattle.std.proofs.Common.{◌≡◌, ℕ, ◌<◌, length, get_or, map}
use Rattle.net_core.specs.declared.ports.TheConstants.{PORT_COUNT}
use Rattle.net_core.specs.View.{assign_of}
use Rattle.event_sim.specs.Showing.{stored_for}
use Rattle.event_sim.proofs.outputs.shown.Given as goal

abbrev pub invariant-loop-port : goal.invariant-loop-port
invariant-loop-port l = record {
  count : length l.numbers ≡ PORT_COUNT;
  same : (k : ℕ) → k < l.port → get_or l.numbers k 0 ≡ (stored_for (map assign_of l.assigns) l.words k).value;
}
