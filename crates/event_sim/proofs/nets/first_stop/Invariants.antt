use Rattle.std.proofs.Common.{◌≡◌, drop, map}
use Rattle.net_core.specs.Clock.{rights, stopped_at}
use Rattle.net_core.specs.View.{wire_of}
use Rattle.event_sim.specs.Views.{env_in}
use Rattle.event_sim.proofs.nets.first_stop.Given as goal

abbrev pub invariant-loop-at : goal.invariant-loop-at
invariant-loop-at l = stopped_at (env_in l.values) l.at (drop l.at (rights (map wire_of l.wires))) ≡ stopped_at (env_in l.values) 0 (rights (map wire_of l.wires))
