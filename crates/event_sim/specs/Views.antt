-- What stands in memory, as definitions see it.
use Rattle.net_core.specs.declared.tree.Net.{Net}
use Rattle.net_core.specs.declared.design.Design.{Design}
use Rattle.net_core.specs.Value.{Env}
use Rattle.net_core.specs.Clock.{env}
use Rattle.net_core.specs.View.{netlist_of}
use Rattle.event_sim.specs.declared.values.Values.{Values}
use Rattle.event_sim.specs.Events.{State}

abbrev pub env_in : Values → Env Net
env_in v = env v.ports.items v.held v.nets.items

abbrev pub state_of : Design → Values → State
state_of d v = record { netlist = netlist_of d; ins = v.ports.items; stored = v.held; nets = v.nets.items }
