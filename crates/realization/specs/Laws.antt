-- What holds of every design, whatever is wanted of it.
use Rattle.std.specs.Prelude.{ℕ, ◌≤◌, None, List}
use Rattle.std.specs.List.{AllByRecursion}
use Rattle.beat_core.specs.declared.answer.Answer.{Answer}
use Rattle.xdp_machine.specs.xdp_maps.State.{MapState}
use Rattle.xdp_machine.specs.Touched.{Touched}
use Rattle.net_core.specs.declared.ports.Inputs.{Inputs}
use Rattle.net_core.specs.Nets.{Netlist}
use Rattle.net_core.specs.Clock.{Stored}
use Rattle.net_core.specs.Trace.{trace}
use Rattle.realization.specs.History.{Arrival, arrivals}
use Rattle.realization.specs.Realizes.{IsPattern, IsPacket, Meets}

-- What goes over whole in a pattern are packets.
abbrev pub PatternsBringPackets : Type 0
PatternsBringPackets = (d : Netlist) (s : Stored) (is : List Inputs) → IsPattern d s is → AllByRecursion IsPacket (arrivals None (trace d s is))

-- What a design meets it meets, too, where no more is wanted of packets, less counts as touched, fewer of them count as apart, and more stages and record sites
-- are counted.
abbrev pub MeetsMore : Type 1
MeetsMore =
    (d : Netlist) (s : Stored) (wanted wider : List Arrival → List Answer → MapState → Type 0) (touch finer apart closer : List Arrival → List Touched → Type 0)
    (stages more_stages records more_records : ℕ)
    → ((packets : List Arrival) (answers : List Answer) (maps : MapState) → AllByRecursion IsPacket packets → wanted packets answers maps → wider packets answers maps)
    → ((packets : List Arrival) (ts : List Touched) → finer packets ts → touch packets ts)
    → ((packets : List Arrival) (ts : List Touched) → closer packets ts → apart packets ts)
    → stages ≤ more_stages → records ≤ more_records
    → Meets d s wanted touch apart stages records → Meets d s wider finer closer more_stages more_records
