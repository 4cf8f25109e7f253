-- A simulator between two clocks, as its callers see it.
use Rattle.std.specs.Prelude.{refl, ◌<◌, List, Option, option_map, length}
use Rattle.std.specs.Coded.{Coded, code_by, coded×}
use Rattle.net_core.specs.declared.tree.Word.{Word}
use Rattle.net_core.specs.declared.tree.Net.{Net}
use Rattle.net_core.specs.declared.tree.Net.TheVariants.{Wire}
use Rattle.net_core.specs.Nets.{Netlist}
use Rattle.net_core.specs.Clock.{Stored, stopping}
use Rattle.net_core.specs.Names.{name_place}
use Rattle.net_core.specs.Codes.{coded_netlist, coded_stored}

pub record Running : Type 0 where
  pub netlist : Netlist
  pub stored : Stored

abbrev pub coded_running : Coded Running
coded_running = code_by (Netlist × Stored) (coded× coded_netlist coded_stored) (λ r. (r.netlist, r.stored)) (λ p. record { netlist = p.0; stored = p.1 }) (λ r. refl)

-- the net of the wire whose divisor is zero in this clock, if there is one
abbrev pub stopped_net : Netlist → List Word → Stored → Option Net
stopped_net d ins s = option_map Wire (stopping d ins s)

-- the design has a name for it
abbrev pub IsNamed : Netlist → Net → Type 0
IsNamed d n = name_place d n < length d.names
