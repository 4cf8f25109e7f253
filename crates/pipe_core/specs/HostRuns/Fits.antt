-- Loads and dumps fit the ports of a design.
use Rattle.std.specs.Prelude.{◌≡◌, ◌≤◌, false, length}
use Rattle.std.specs.List.{AllByRecursion}
use Rattle.hazard_core.specs.xdp_maps.State.{MapState, IsSound}
use Rattle.realization.specs.net_core.declared.ports.Inputs.{Inputs}
use Rattle.realization.specs.net_core.Trace.{IsInput}
use Rattle.realization.specs.HostHistory.Host.{load, dump}

-- each number fits its port, and no beat is offered or taken
pub record IsHostClock (i : Inputs) : Type 0 where
  pub fits : IsInput i
  pub offers : i.in_valid ≡ false
  pub takes : i.out_ready ≡ false

pub record AreHostClocks (maps : MapState) : Type 0 where
  pub load : AllByRecursion IsHostClock (load maps)
  pub dump : AllByRecursion IsHostClock (dump maps.decls)

-- There are numbers for sixteen maps.
abbrev pub LoadsFit : Type 0
LoadsFit = (maps : MapState) → IsSound maps → length maps.decls ≤ 16 → AreHostClocks maps
