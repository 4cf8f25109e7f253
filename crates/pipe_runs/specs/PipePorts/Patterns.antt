-- What a pattern offers may come, so the design follows the machine in it.
use Rattle.std.specs.Prelude.{◌≡◌, None, List, [], ◌∷◌, ◌++◌}
use Rattle.cell_core.specs.xdp_maps.State.{MapState}
use Rattle.pipe_core.specs.net_core.declared.ports.Inputs.{Inputs}
use Rattle.pipe_core.specs.net_core.Ports.{words_of}
use Rattle.pipe_core.specs.net_core.Nets.{Netlist}
use Rattle.pipe_core.specs.net_core.Clock.{Stored, shown, stopping}
use Rattle.pipe_core.specs.net_core.Trace.{NeverStops, stored_after}
use Rattle.pipe_core.specs.realization.Realizes.{IsPattern}
use Rattle.pipe_core.specs.Machine.{Build, output}
use Rattle.pipe_core.specs.History.{begin}
use Rattle.pipe_core.specs.HostRuns.Inputs.{input_of}
use Rattle.pipe_net.specs.Machine.{MayCome, Shows}
use Rattle.pipe_runs.specs.PipeAnswers.Coming.{AllMayCome}
use Rattle.pipe_runs.specs.PipeAnswers.Following.{FollowsAlways}
use Rattle.pipe_runs.specs.PipePorts.Followed.{WriteNothing, IsFollowed, ran}
use Rattle.pipe_runs.specs.PipePorts.Ports.{ShowsClock, ShowsHistory}

-- The host writes nothing, and only what may come does; so the design follows the machine, and shows its history.
pub record IsInPattern (b : Build) (maps : MapState) (n : Netlist) (st : Stored) (is : List Inputs) : Type 0 where
  pub silent : WriteNothing is
  pub comes : AllMayCome b is (begin b maps)
  pub follows : FollowsAlways b n is (begin b maps) st
  pub never : NeverStops n st is
  pub history : ShowsHistory b maps n st is

-- the law
abbrev pub PatternsMayCome : Type 0
PatternsMayCome = (b : Build) (maps : MapState) (n : Netlist) (st : Stored) → IsFollowed b maps n st → (is : List Inputs) → IsPattern n st is → IsInPattern b maps n st is

-- A clock that goes on from others: no divisor is 0 in it, and the outputs show what the machine does.
pub record GoesOn (b : Build) (maps : MapState) (n : Netlist) (st : Stored) (is : List Inputs) (i : Inputs) : Type 0 where
  pub may : MayCome b (ran b maps is).state i
  pub goes : stopping n (words_of i) (stored_after n st is) ≡ None
  pub shows : Shows (output b (input_of i) (ran b maps is).state) (shown n (words_of i) (stored_after n st is))
  pub clock : ShowsClock b (ran b maps is).state i (shown n (words_of i) (stored_after n st is))

-- So does the last clock of a pattern.
abbrev pub PatternsGoOn : Type 0
PatternsGoOn =
    (b : Build) (maps : MapState) (n : Netlist) (st : Stored) → IsFollowed b maps n st → (is : List Inputs) (i : Inputs) → IsPattern n st (is ++ i ∷ []) → GoesOn b maps n st is i
