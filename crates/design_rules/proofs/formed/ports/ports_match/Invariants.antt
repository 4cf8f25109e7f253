use Rattle.std.proofs.Common.{◌≡◌, drop, length}
use Rattle.std.specs.Cmp.Lexicographic.{pointwise}
use Rattle.net_core.specs.declared.ports.TheConstants.{PORT_COUNT}
use Rattle.net_core.specs.Ports.{port_list}
use Rattle.design_rules.specs.Formed.{same_port}
use Rattle.design_rules.proofs.formed.ports.ports_match.Given as goal

abbrev pub invariant-loop-k : goal.invariant-loop-k
invariant-loop-k l = (length l.ports ≡ PORT_COUNT) × (pointwise same_port (drop l.k l.ports) (drop l.k port_list) ≡ pointwise same_port l.ports port_list)
