use Rattle.std.proofs.Common.{◌≡◌, drop, length, map, string_bytes}
use Rattle.std.specs.Cmp.Lexicographic.{pointwise}
use Rattle.std.specs.Str.{bytes_eq}
use Rattle.net_core.specs.declared.ports.TheConstants.{PORT_COUNT}
use Rattle.net_core.specs.Ports.{port_names}
use Rattle.design_rules.proofs.formed.ports.names_match.Given as goal

abbrev pub invariant-loop-k : goal.invariant-loop-k
invariant-loop-k l = (length l.names ≡ PORT_COUNT) × (pointwise bytes_eq (drop l.k (map string_bytes l.names)) (drop l.k port_names) ≡ pointwise bytes_eq (map string_bytes l.names) port_names)
