-- Line rate: a beat comes and one goes at each clock. What a drive takes beside that.
use Rattle.std.specs.Prelude.{◌≡◌, ℕ, ◌+◌, ◌*◌, ◌≤◌, None, List, [], ◌∷◌, ◌++◌, length}
use Rattle.std.specs.List.{flat_map, AllByRecursion}
use Rattle.realization.specs.beat_core.declared.beat.Beat.{Beat}
use Rattle.realization.specs.beat_core.Beats.{beats_of}
use Rattle.realization.specs.beat_core.Laws.{IsFrame}
use Rattle.realization.specs.Bounds.{beats_before, FollowWithin, line_clocks, wait_clocks, all_writing}
use Rattle.hazard_core.specs.xdp_maps.State.{MapState, IsSound}
use Rattle.hazard_core.specs.xdp_machine.Touched.{Touched}
use Rattle.hazard_core.specs.cell_core.Cells.{bit}
use Rattle.pipe_core.specs.Machine.{Build, Input, new_state, some_send}
use Rattle.pipe_core.specs.History.{run, begin}
use Rattle.pipe_core.specs.Pipeable.{IsPipelinable}
use Rattle.pipe_core.specs.Apart.{AllRun, ConflictFree}
use Rattle.pipe_core.specs.Drive.{Driven, drive_clock, Beside, drive, drive_start, clocks_of, beats_in}
use Rattle.pipe_core.specs.Forward.{commits_in}

-- in how many of these clocks packets are sent back
abbrev pub reloads_in : Build → List Beside → Driven → ℕ
reloads_in b [] d = 0
reloads_in b (x ∷ xs) d = bit (some_send b 0 d.trace.state.places) + reloads_in b xs (drive_clock b x.ifindex x.time d)

-- Whatever was done before, and whatever the host did in it, a drive of what is left is over after the clocks of all the frames at line rate, one more for each
-- operation that is committed in it, and for each clock in which packets are sent back those of the way to the commit place and two more.
abbrev pub DrivesAtLineRate : Type 0
DrivesAtLineRate =
    (b : Build) (maps : MapState) → b.slots ≡ b.plan.last + 4 → (frames : List (List ℕ)) → AllByRecursion IsFrame frames → (late : ℕ) → FollowWithin b.plan.last frames late
    → (is : List Input) (left : List Beat) → beats_in b is (new_state b maps) ++ left ≡ flat_map beats_of frames
    → (clocks : List Beside) (d : Driven) → d ≡ record { left = left; trace = run b is (begin b maps) }
    → line_clocks b.plan.last frames late + commits_in b clocks d + reloads_in b clocks d * (b.plan.commit + 2) ≤ length clocks
    → length (drive b clocks d).trace.gave ≡ length frames

-- The first k answers are given that early, beside the clocks of the beats whose answers were given before: so long a packet waits.
abbrev pub GivesFirst : Type 0
GivesFirst =
    (b : Build) (maps : MapState) → b.slots ≡ b.plan.last + 4 → (frames : List (List ℕ)) → AllByRecursion IsFrame frames → (late : ℕ) → FollowWithin b.plan.last frames late
    → (is : List Input) (left : List Beat) → beats_in b is (new_state b maps) ++ left ≡ flat_map beats_of frames
    → (clocks : List Beside) (d : Driven) → d ≡ record { left = left; trace = run b is (begin b maps) } → (k : ℕ) → k ≤ length frames
    → wait_clocks b.plan.last frames late k + commits_in b clocks d + reloads_in b clocks d * (b.plan.commit + 2) ≤ length clocks + beats_before (length d.trace.gave) frames
    → k ≤ length (drive b clocks d).trace.gave

-- So where no runs of the frames conflict a full drive takes the clocks of line rate, and one more for each operation of the runs that writes.
abbrev pub FullDriveAtLineRate : Type 0
FullDriveAtLineRate =
    (b : Build) (maps : MapState) → IsPipelinable maps.decls b → IsSound maps → b.slots ≡ b.plan.last + 4 → (frames : List (List ℕ)) → AllByRecursion IsFrame frames → (clocks more : List Beside) → clocks_of b frames ≤ length (clocks ++ more) + 1
    → ((ts : List Touched) → AllRun b.program maps (drive b (clocks ++ more) (drive_start b maps frames)).trace.came ts → ConflictFree (b.plan.last + 3) ts)
    → (q : ℕ) → ((ts : List Touched) → AllRun b.program maps (drive b (clocks ++ more) (drive_start b maps frames)).trace.came ts → all_writing ts ≤ q)
    → (late : ℕ) → FollowWithin b.plan.last frames late → line_clocks b.plan.last frames late + q ≤ length clocks
    → length (drive b clocks (drive_start b maps frames)).trace.gave ≡ length frames

-- Whatever conflicts, so it is after any clocks with a silent host, with those in which packets are sent back: each costs the way to the commit place once more.
abbrev pub LateDriveAtLineRate : Type 0
LateDriveAtLineRate =
    (b : Build) (maps : MapState) → IsPipelinable maps.decls b → IsSound maps → b.slots ≡ b.plan.last + 4 → (is : List Input) → AllByRecursion (λ i. i.host ≡ None) is
    → (frames : List (List ℕ)) → AllByRecursion IsFrame frames → (left : List Beat) → beats_in b is (new_state b maps) ++ left ≡ flat_map beats_of frames
    → (clocks more : List Beside) → clocks_of b frames + b.plan.last + 2 ≤ length (clocks ++ more) + 1 → (d : Driven) → d ≡ record { left = left; trace = run b is (begin b maps) }
    → (q : ℕ) → ((ts : List Touched) → AllRun b.program maps (drive b (clocks ++ more) d).trace.came ts → all_writing ts ≤ q)
    → (late : ℕ) → FollowWithin b.plan.last frames late → line_clocks b.plan.last frames late + q + reloads_in b clocks d * (b.plan.commit + 2) ≤ length clocks
    → length (drive b clocks d).trace.gave ≡ length frames

-- and the first answers likewise
abbrev pub LateFirstAtLineRate : Type 0
LateFirstAtLineRate =
    (b : Build) (maps : MapState) → IsPipelinable maps.decls b → IsSound maps → b.slots ≡ b.plan.last + 4 → (is : List Input) → AllByRecursion (λ i. i.host ≡ None) is
    → (frames : List (List ℕ)) → AllByRecursion IsFrame frames → (left : List Beat) → beats_in b is (new_state b maps) ++ left ≡ flat_map beats_of frames
    → (clocks more : List Beside) → clocks_of b frames + b.plan.last + 2 ≤ length (clocks ++ more) + 1 → (d : Driven) → d ≡ record { left = left; trace = run b is (begin b maps) }
    → (q : ℕ) → ((ts : List Touched) → AllRun b.program maps (drive b (clocks ++ more) d).trace.came ts → all_writing ts ≤ q)
    → (late : ℕ) → FollowWithin b.plan.last frames late → (k : ℕ) → k ≤ length frames
    → wait_clocks b.plan.last frames late k + q + reloads_in b clocks d * (b.plan.commit + 2) ≤ length clocks + beats_before (length d.trace.gave) frames
    → k ≤ length (drive b clocks d).trace.gave
