use Rattle.std.proofs.Common.{◌≡◌, ℕ, ◌<◌, length, get_or}
use Rattle.net_core.specs.declared.ports.TheConstants.{PORT_COUNT}
use Rattle.net_core.specs.Value.{nothing}
use Rattle.net_core.specs.Ports.{port_list, words_by}
use Rattle.event_sim.proofs.outputs.write_inputs.Given as goal

abbrev pub invariant-loop-port : goal.invariant-loop-port
invariant-loop-port l = record {
  count : length l.ports ≡ PORT_COUNT;
  same : (k : ℕ) → k < l.port → get_or l.ports k nothing ≡ get_or (words_by port_list l.numbers) k nothing;
}
