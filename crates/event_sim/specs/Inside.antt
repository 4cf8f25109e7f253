-- What is in memory of a design between two events.
use Rattle.std.specs.Prelude.{◌≡◌, ℕ, ◌^◌, ◌<◌, ◌≤◌, false, List, ◌++◌, length, map}
use Rattle.std.proofs.Common.{get_or}
use Rattle.net_core.specs.declared.ports.TheConstants.{PORT_COUNT}
use Rattle.net_core.specs.declared.design.Design.{Design}
use Rattle.net_core.specs.Nets.{Netlist, AssignTree}
use Rattle.net_core.specs.Value.{nothing}
use Rattle.net_core.specs.Clock.{Stored}
use Rattle.net_core.specs.Width.{wire_widths, output_width}
use Rattle.net_core.specs.Suits.{IsOfWidth}
use Rattle.design_rules.specs.Formed.{IsWellFormed}
use Rattle.clock_sim.specs.Ready.{ArePorts, IsStored}
use Rattle.event_sim.specs.declared.values.Values.{Values}
use Rattle.event_sim.specs.Events.{State, net_count}
use Rattle.event_sim.specs.Views.{state_of}

abbrev pub assigned_width : Netlist → AssignTree → ℕ
assigned_width d a = output_width (get_or d.ports a.port (record { output = false; width = 0 }))

-- the width of each net: of a wire its own, of an assign that of its output
abbrev pub net_widths : Netlist → List ℕ
net_widths d = wire_widths d.wires ++ map (assigned_width d) d.assigns

-- what a well-formed design can have between two events
pub record IsState (s : State) : Type 0 where
  pub formed : IsWellFormed s.netlist
  pub room : length s.ins ≡ PORT_COUNT
  pub ports : ArePorts s.ins
  pub stored : IsStored s.netlist.declared s.stored
  pub count : length s.nets ≡ net_count s.netlist
  pub fit : (n : ℕ) → n < net_count s.netlist → IsOfWidth (get_or (net_widths s.netlist) n 0) (get_or s.nets n nothing)
  pub few : net_count s.netlist ≤ 2 ^ 32

-- the state, and a second copy of what is stored, into which an edge writes
pub record IsInside (d : Design) (v : Values) (next : Stored) : Type 0 where
  pub state : IsState (state_of d v)
  pub copy : next ≡ v.held
