-- A drive in which no packet is ever sent back.
use Rattle.std.specs.Prelude.{◌≡◌, ℕ, ◌+◌, ◌*◌, ◌≤◌, false, List, [], ◌∷◌, length}
use Rattle.std.specs.List.{flat_map, AllByRecursion}
use Rattle.realization.specs.beat_core.Beats.{beats_of}
use Rattle.realization.specs.beat_core.Laws.{IsFrame}
use Rattle.hazard_core.specs.xdp_maps.State.{MapState}
use Rattle.pipe_core.specs.Machine.{Build, Action, Commits, Writes, Moves, some_send}
use Rattle.pipe_core.specs.SeenChanges.{action_in}
use Rattle.pipe_core.specs.Drive.{Driven, driving, drive_clock, Beside, drive, drive_start}

-- In each of these clocks no place sends back.
abbrev pub GoesForward : Build → List Beside → Driven → Type 0
GoesForward b [] d = Unit {0}
GoesForward b (x ∷ xs) d = (some_send b 0 d.trace.state.places ≡ false) × GoesForward b xs (drive_clock b x.ifindex x.time d)

abbrev pub commit_count : Action → ℕ
commit_count (Commits j x) = 1
commit_count (Writes a n) = 0
commit_count Moves = 0

-- in how many of them an operation is committed
abbrev pub commits_in : Build → List Beside → Driven → ℕ
commits_in b [] d = 0
commits_in b (x ∷ xs) d = commit_count (action_in b (driving x.ifindex x.time d.left) d.trace.state) + commits_in b xs (drive_clock b x.ifindex x.time d)

-- Each beat counts a clock in and one out, each frame one more and one for each operation that it commits, and the places count once.
abbrev pub EndsForward : Type 0
EndsForward =
    (b : Build) → b.slots ≡ b.plan.last + 4 → (maps : MapState) (frames : List (List ℕ)) → AllByRecursion IsFrame frames → (clocks : List Beside)
    → GoesForward b clocks (drive_start b maps frames)
    → 2 * length (flat_map beats_of frames) + length frames + b.plan.last + 1 + commits_in b clocks (drive_start b maps frames) ≤ length clocks
    → length (drive b clocks (drive_start b maps frames)).trace.gave ≡ length frames
