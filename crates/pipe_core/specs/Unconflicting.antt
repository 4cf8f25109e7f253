-- Where no runs of the frames conflict nothing is sent back.
use Rattle.std.specs.Prelude.{◌≡◌, ℕ, ◌+◌, ◌*◌, ◌≤◌, false, List, ◌++◌, length}
use Rattle.std.specs.List.{flat_map, AllByRecursion}
use Rattle.realization.specs.beat_core.Beats.{beats_of}
use Rattle.realization.specs.beat_core.Laws.{IsFrame}
use Rattle.realization.specs.beat_core.Ports.{Arrival}
use Rattle.hazard_core.specs.xdp_maps.State.{MapState, IsSound}
use Rattle.hazard_core.specs.xdp_machine.Touched.{Touched}
use Rattle.pipe_core.specs.Machine.{Build, some_send}
use Rattle.pipe_core.specs.History.{IsInOrder}
use Rattle.pipe_core.specs.SeenChanges.{SeenChanges}
use Rattle.pipe_core.specs.Pipeable.{IsPipelinable}
use Rattle.pipe_core.specs.Marked.{AreMarked}
use Rattle.pipe_core.specs.SequentialOrder.{IsSequential}
use Rattle.pipe_core.specs.ChangeCauses.{HaveChangeCauses}
use Rattle.pipe_core.specs.Found.{AreFound}
use Rattle.realization.specs.Bounds.{all_writing}
use Rattle.pipe_core.specs.Apart.{AllRun, ConflictFree}
use Rattle.pipe_core.specs.Drive.{Beside, drive, drive_start, clocks_of}
use Rattle.pipe_core.specs.Forward.{GoesForward}

-- Whatever frames are to come: where no runs conflict no place sends back, if nothing was sent back so far.
abbrev pub NothingMustReload : Type 0
NothingMustReload =
    (b : Build) (maps : MapState) → IsPipelinable maps.decls b → IsSound maps → (w : SeenChanges) → IsInOrder b w.trace → IsSequential b maps w → AreMarked b w → HaveChangeCauses b maps w → AreFound b w
    → (later : List Arrival) → ((ts : List Touched) → AllRun b.program maps (w.trace.came ++ later) ts → ConflictFree (b.plan.last + 3) ts)
    → some_send b 0 w.trace.state.places ≡ false

-- ---- the full drive

-- Where no runs of the frames of a drive conflict, nothing is sent back in its first clocks, and so in none.
abbrev pub StaysForward : Type 0
StaysForward =
    (b : Build) (maps : MapState) → IsPipelinable maps.decls b → IsSound maps → (frames : List (List ℕ)) → (clocks more : List Beside)
    → ((ts : List Touched) → AllRun b.program maps (drive b (clocks ++ more) (drive_start b maps frames)).trace.came ts → ConflictFree (b.plan.last + 3) ts)
    → GoesForward b clocks (drive_start b maps frames)

-- So it ends in as many clocks: each beat counts one in and one out, each frame one more and one for each operation of its run that writes, and the
-- places count once.
abbrev pub EndsWithoutConflicts : Type 0
EndsWithoutConflicts =
    (b : Build) (maps : MapState) → IsPipelinable maps.decls b → IsSound maps → b.slots ≡ b.plan.last + 4 → (frames : List (List ℕ)) → AllByRecursion IsFrame frames → (clocks more : List Beside) → clocks_of b frames ≤ length (clocks ++ more) + 1
    → ((ts : List Touched) → AllRun b.program maps (drive b (clocks ++ more) (drive_start b maps frames)).trace.came ts → ConflictFree (b.plan.last + 3) ts)
    → (q : ℕ) → ((ts : List Touched) → AllRun b.program maps (drive b (clocks ++ more) (drive_start b maps frames)).trace.came ts → all_writing ts ≤ q)
    → 2 * length (flat_map beats_of frames) + length frames + b.plan.last + 1 + q ≤ length clocks
    → length (drive b clocks (drive_start b maps frames)).trace.gave ≡ length frames
