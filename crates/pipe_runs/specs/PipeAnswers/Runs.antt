-- What a pipeline with maps answers while its host only reads.
use Rattle.std.specs.Prelude.{◌≡◌, false, List, ◌++◌, map as map_list}
use Rattle.std.specs.List.{AllByRecursion}
use Rattle.cell_core.specs.xdp_maps.State.{MapState, IsSound, opened_state}
use Rattle.pipe_core.specs.net_core.declared.ports.Inputs.{Inputs}
use Rattle.pipe_core.specs.realization.HostHistory.Host.{load}
use Rattle.pipe_core.specs.hazard_core.Tables.{maps_of}
use Rattle.pipe_core.specs.Machine.{Build, inside}
use Rattle.pipe_core.specs.History.{Trace, run, begin, IsInOrder}
use Rattle.pipe_core.specs.Sequential.{AreCellRuns}
use Rattle.pipe_core.specs.SequentialOrder.{left_maps}
use Rattle.pipe_core.specs.Pipeable.{IsPipelinable}
use Rattle.pipe_core.specs.HostRuns.Inputs.{input_of}

-- Packets that left are cell runs one after another on these maps, each on those that the one before it left; answers are theirs in the order in which frames came; and when no packet
-- is in the places the tables stand for the maps that the last one left.
pub record RunsFrom (b : Build) (maps : MapState) (t : Trace) : Type 0 where
  pub order : IsInOrder b t
  pub runs : AreCellRuns b.program maps t.left t.came (left_maps b.program maps t.left)
  pub last : inside t.state.places ≡ 0 → maps_of t.state.tables ≡ left_maps b.program maps t.left

-- So it is over every list of clocks in which the host writes nothing: from maps that are loaded on,
abbrev pub ReadsRunInTurn : Type 0
ReadsRunInTurn =
    (b : Build) (maps : MapState) → IsPipelinable maps.decls b → IsSound maps → (is : List Inputs) → AllByRecursion (λ i. i.host_write ≡ false) is → RunsFrom b maps (run b (map_list input_of is) (begin b maps))

-- and after a load.
abbrev pub LoadsRunInTurn : Type 0
LoadsRunInTurn =
    (b : Build) (maps : MapState) → IsPipelinable maps.decls b → IsSound maps → (is : List Inputs) → AllByRecursion (λ i. i.host_write ≡ false) is
    → RunsFrom b maps (run b (map_list input_of (load maps ++ is)) (begin b (opened_state maps.decls)))
