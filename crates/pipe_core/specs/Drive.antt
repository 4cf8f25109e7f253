-- The full drive: in each clock the next beat is offered while one is left, a beat that is shown is taken, and the host is silent.
use Rattle.std.specs.Prelude.{◌≡◌, ℕ, ◌+◌, ◌*◌, ◌≤◌, if◌then◌else◌, Option, Some, None, List, [], ◌∷◌, ◌++◌, length, drop, true}
use Rattle.std.specs.List.{flat_map, AllByRecursion}
use Rattle.realization.specs.beat_core.declared.beat.Beat.{Beat}
use Rattle.realization.specs.beat_core.Beats.{beats_of}
use Rattle.realization.specs.beat_core.Laws.{IsFrame}
use Rattle.hazard_core.specs.xdp_maps.State.{MapState, IsSound}
use Rattle.hazard_core.specs.cell_core.Rows.{record_count}
use Rattle.pipe_core.specs.Machine.{State, Input, Build, new_state, is_ready, beat_over, clock}
use Rattle.pipe_core.specs.History.{Trace, next, run, begin}
use Rattle.pipe_core.specs.Pipeable.{IsPipelinable}

-- the beats that are left, and the trace so far
pub record Driven : Type 0 where
  pub left : List Beat
  pub trace : Trace

abbrev pub first_of : List Beat → Option Beat
first_of [] = None
first_of (x ∷ left) = Some x

abbrev pub driving : ℕ → ℕ → List Beat → Input
driving ifindex time left = record { beat = first_of left; ifindex = ifindex; time = time; take = true; host = None }

-- a clock of the drive
unfoldable pub drive_clock : Build → ℕ → ℕ → Driven → Driven
drive_clock b ifindex time d = record {
  left = if is_ready b d.trace.state then drop 1 d.left else d.left;
  trace = next b (driving ifindex time d.left) d.trace;
}

-- the interface number and the time that stand beside the beat of a clock
pub record Beside : Type 0 where
  pub ifindex : ℕ
  pub time : ℕ

-- a clock beside each of these
abbrev pub drive : Build → List Beside → Driven → Driven
drive b [] d = d
drive b (x ∷ xs) d = drive b xs (drive_clock b x.ifindex x.time d)

abbrev pub drive_start : Build → MapState → List (List ℕ) → Driven
drive_start b maps frames = record { left = flat_map beats_of frames; trace = begin b maps }

-- With operations on maps a frame may wait for the one before it: each beat counts a clock in and one out, and each frame counts the places, a clock
-- for each site that may write, and three more.
abbrev pub clocks_of : Build → List (List ℕ) → ℕ
clocks_of b frames = 2 * length (flat_map beats_of frames) + length frames * (b.plan.last + record_count b.program.sites + 3)

-- All frames are answered a clock before that.
abbrev pub EndsInTime : Type 0
EndsInTime =
    (b : Build) (maps : MapState) → IsPipelinable maps.decls b → IsSound maps → b.slots ≡ b.plan.last + 4 → (frames : List (List ℕ)) → AllByRecursion IsFrame frames
    → (clocks : List Beside) → clocks_of b frames ≤ length clocks + 1
    → length (drive b clocks (drive_start b maps frames)).trace.gave ≡ length frames

-- the beats that go over inwards in these clocks
abbrev pub ahead : Option Beat → List Beat → List Beat
ahead None left = left
ahead (Some x) left = x ∷ left

abbrev pub beats_in : Build → List Input → State → List Beat
beats_in b [] s = []
beats_in b (i ∷ is) s = ahead (beat_over b s i) (beats_in b is (clock b i s))

-- The drive may begin late, after any clocks with a silent host in which some of the beats went over: then what is left is given within as many
-- clocks, and once more those of the places.
abbrev pub EndsLate : Type 0
EndsLate =
    (b : Build) (maps : MapState) → IsPipelinable maps.decls b → IsSound maps → b.slots ≡ b.plan.last + 4 → (is : List Input) → AllByRecursion (λ i. i.host ≡ None) is
    → (frames : List (List ℕ)) → AllByRecursion IsFrame frames → (left : List Beat) → beats_in b is (new_state b maps) ++ left ≡ flat_map beats_of frames
    → (clocks : List Beside) → clocks_of b frames + b.plan.last + 2 ≤ length clocks + 1
    → length (drive b clocks (record { left = left; trace = run b is (begin b maps) })).trace.gave ≡ length frames
