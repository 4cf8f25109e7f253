-- A design that follows the machine of a pipeline with maps.
use Rattle.std.specs.Prelude.{◌≡◌, false, List, map as map_list}
use Rattle.std.specs.List.{AllByRecursion}
use Rattle.cell_core.specs.xdp_maps.State.{MapState, IsSound}
use Rattle.pipe_core.specs.net_core.declared.ports.Inputs.{Inputs}
use Rattle.pipe_core.specs.net_core.Nets.{Netlist}
use Rattle.pipe_core.specs.net_core.Ports.{words_of}
use Rattle.pipe_core.specs.net_core.Clock.{Stored, shown}
use Rattle.pipe_core.specs.net_core.Trace.{IsInput, stored_after}
use Rattle.pipe_core.specs.Machine.{Build, output}
use Rattle.pipe_core.specs.History.{Trace, run, begin}
use Rattle.pipe_core.specs.Pipeable.{IsPipelinable}
use Rattle.pipe_core.specs.HostRuns.Inputs.{input_of}
use Rattle.pipe_net.specs.Machine.{Shows}
use Rattle.pipe_net.specs.Layout.{HasAnswer}
use Rattle.pipe_runs.specs.PipeAnswers.Coming.{AllMayCome}
use Rattle.pipe_runs.specs.PipeAnswers.Following.{FollowsAlways}

-- in clocks one after another the host writes nothing
abbrev pub WriteNothing : List Inputs → Type 0
WriteNothing is = AllByRecursion (λ i. i.host_write ≡ false) is

-- the machine after these clocks, by what stood at the ports
abbrev pub ran : Build → MapState → List Inputs → Trace
ran b maps is = run b (map_list input_of is) (begin b maps)

-- The design holds values from which on it follows the machine over these maps, while the host writes nothing and only what may come does. After such clocks its outputs show what the machine does,
-- whatever beat is offered.
pub record RunsFollow (b : Build) (maps : MapState) (n : Netlist) (st : Stored) : Type 0 where
  pub clocks : (is : List Inputs) → WriteNothing is → AllMayCome b is (begin b maps) → FollowsAlways b n is (begin b maps) st
  pub shows : (is : List Inputs) (i : Inputs) → WriteNothing is → AllMayCome b is (begin b maps) → IsInput i → i.host_write ≡ false
      → Shows (output b (input_of i) (ran b maps is).state) (shown n (words_of i) (stored_after n st is))

-- what is asked of the pipe and its maps beside that
pub record IsFollowed (b : Build) (maps : MapState) (n : Netlist) (st : Stored) : Type 0 where
  pub pipelinable : IsPipelinable maps.decls b
  pub answer : HasAnswer b
  pub sound : IsSound maps
  pub follows : RunsFollow b maps n st
