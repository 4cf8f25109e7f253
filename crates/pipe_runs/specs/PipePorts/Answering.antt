-- A design that follows a pipeline with maps answers packets by their cell runs, in their order.
use Rattle.std.specs.Prelude.{◌≡◌, List, length}
use Rattle.cell_core.specs.beat_core.Ports.{Arrival}
use Rattle.cell_core.specs.xdp_maps.State.{MapState}
use Rattle.pipe_core.specs.net_core.declared.ports.Inputs.{Inputs}
use Rattle.pipe_core.specs.net_core.Nets.{Netlist}
use Rattle.pipe_core.specs.net_core.Clock.{Stored}
use Rattle.pipe_core.specs.realization.Realizes.{IsPattern, IsPrefix}
use Rattle.cell_core.specs.Sites.{ProgramView}
use Rattle.pipe_core.specs.hazard_core.StageValues.{StageValues}
use Rattle.pipe_core.specs.Machine.{Build}
use Rattle.pipe_core.specs.History.{answers_of}
use Rattle.pipe_core.specs.Sequential.{AreCellRuns}
use Rattle.pipe_runs.specs.PipePorts.Answered.{AreAnswered}
use Rattle.pipe_runs.specs.PipePorts.Followed.{IsFollowed}

-- Packets that all left are answered by what they held, and lead to the maps that the last one left.
abbrev pub RunsAreAnswers : Type 0
RunsAreAnswers =
    (p : ProgramView) (maps : MapState) (hs : List StageValues) (cs : List Arrival) (last : MapState) → AreCellRuns p maps hs cs last → length hs ≡ length cs → AreAnswered p maps cs (answers_of p hs cs) last

-- Under every pattern no clock stops, the answers that are given are the first ones of those of cell runs one after another, and the beats after them begin the next one.
abbrev pub PatternsAnswerInTurn : Type 0
PatternsAnswerInTurn =
    (b : Build) (maps : MapState) (n : Netlist) (st : Stored) → IsFollowed b maps n st → (is : List Inputs) → IsPattern n st is → IsPrefix n st is (AreAnswered b.program maps)
