-- A design shows the host the maps that its packets left.
use Rattle.std.specs.Prelude.{◌≡◌, true, false, List, map as map_list}
use Rattle.std.specs.List.{AllByRecursion}
use Rattle.cell_core.specs.xdp_maps.State.{MapState, IsSound}
use Rattle.pipe_core.specs.net_core.declared.ports.Inputs.{Inputs}
use Rattle.pipe_core.specs.net_core.Nets.{Netlist}
use Rattle.pipe_core.specs.net_core.Clock.{Stored}
use Rattle.pipe_core.specs.realization.HostHistory.Host.{dump, ShowsMaps}
use Rattle.pipe_core.specs.hazard_core.Tables.{maps_of}
use Rattle.pipe_core.specs.Machine.{is_idle}
use Rattle.pipe_core.specs.History.{Trace, run, begin}
use Rattle.pipe_core.specs.Pipeable.{IsPipelinable}
use Rattle.pipe_core.specs.HostRuns.Inputs.{input_of}
use Rattle.pipe_net.specs.Layout.{Layout}
use Rattle.pipe_runs.specs.PipeAnswers.Going.{IsGoing}
use Rattle.pipe_runs.specs.PipeAnswers.Following.{FollowsAlways}

-- Over every list of clocks in which the host writes nothing the machine goes on.
abbrev pub RunsGoOn : Type 0
RunsGoOn =
    (l : Layout) → IsPipelinable l.decls l.build → (maps : MapState) → maps.decls ≡ l.decls → IsSound maps → (is : List Inputs) → AllByRecursion (λ i. i.host_write ≡ false) is
    → IsGoing l (run l.build (map_list input_of is) (begin l.build maps))

-- And where no frame is inside, a design that follows the machine through a dump shows what its tables stand for.
abbrev pub DumpsAreShown : Type 0
DumpsAreShown =
    (l : Layout) (t : Trace) → IsGoing l t → is_idle t.state ≡ true → (d : Netlist) (st : Stored) → FollowsAlways l.build d (dump t.state.tables.decls) t st → ShowsMaps d st (maps_of t.state.tables)
