-- What holds of designs that show the same.
use Rattle.std.specs.Prelude.{◌≡◌, ℕ, List}
use Rattle.beat_core.specs.declared.answer.Answer.{Answer}
use Rattle.xdp_machine.specs.xdp_maps.State.{MapState}
use Rattle.xdp_machine.specs.Touched.{Touched}
use Rattle.net_core.specs.declared.ports.Inputs.{Inputs}
use Rattle.net_core.specs.Nets.{Netlist}
use Rattle.net_core.specs.Trace.{trace}
use Rattle.realization.specs.History.{Arrival}
use Rattle.realization.specs.HostHistory.Host.{ShowsMaps}
use Rattle.net_core.specs.SameClocks.Same.{reached, ShowTheSame}
use Rattle.realization.specs.Realizes.{Meets}

-- After the same clocks both go through the same clocks.
abbrev pub SameDesignsGoOn : Type 0
SameDesignsGoOn = (a b : Netlist) → ShowTheSame a b → (before is : List Inputs) → trace b (reached b before) is ≡ trace a (reached a before) is

-- After the same clocks both show the host the same maps.
abbrev pub SameDesignsShowMaps : Type 0
SameDesignsShowMaps = (a b : Netlist) → ShowTheSame a b → (before : List Inputs) (maps : MapState) → ShowsMaps a (reached a before) maps → ShowsMaps b (reached b before) maps

-- After the same clocks the second answers as is wanted, and in the stated clocks, where the first one does.
abbrev pub SameDesignsMeet : Type 1
SameDesignsMeet =
    (a b : Netlist) → ShowTheSame a b
    → (before : List Inputs) (wanted : List Arrival → List Answer → MapState → Type 0) (touch apart : List Arrival → List Touched → Type 0) (stages records : ℕ)
    → Meets a (reached a before) wanted touch apart stages records → Meets b (reached b before) wanted touch apart stages records
