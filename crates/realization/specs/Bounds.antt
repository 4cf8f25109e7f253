-- The stated clocks, counted from the first offered beat to the one with which the last answer is whole.
use Rattle.std.specs.Prelude.{ℕ, zero, suc, ◌+◌, ◌-◌, ◌*◌, ◌/◌, ◌<◌, ◌≤◌, max, List, [], ◌∷◌, length, Contains}
use Rattle.beat_core.specs.Beats.{beat_count}
use Rattle.xdp_machine.specs.xdp_maps.Touched.{Resource}
use Rattle.xdp_machine.specs.Touched.{Touched}

-- the most beats of one of these frames
abbrev pub most_beats : List (List ℕ) → ℕ
most_beats [] = 0
most_beats (f ∷ fs) = max (beat_count (length f)) (most_beats fs)

-- the clocks that n packets may take: S is the last stage, B the most beats of a frame, Q the number of record sites
abbrev pub clock_bound : ℕ → ℕ → ℕ → ℕ → ℕ
clock_bound n s b q = n * (s + 2 * b + q + 8)

-- ---- packets without conflicts

-- these resources are read, those written, and none of them is the same
abbrev pub AreOthers : List Resource → List Resource → Type 0
AreOthers reads writes = (r : Resource) → Contains reads r → Contains writes r → ⊥

-- the next n runs read nothing of what is written
abbrev pub ReadOthers : ℕ → List Resource → List Touched → Type 0
ReadOthers zero writes ts = Unit {0}
ReadOthers (suc n) writes [] = Unit {0}
ReadOthers (suc n) writes (t ∷ ts) = AreOthers t.reads writes × ReadOthers n writes ts

-- no run reads what one of the n before it wrote
abbrev pub ConflictFree : ℕ → List Touched → Type 0
ConflictFree n [] = Unit {0}
ConflictFree n (t ∷ ts) = ReadOthers n t.writes ts × ConflictFree n ts

-- the clocks of each frame, with the operations of its run that write
abbrev pub packet_clocks : List (List ℕ) → List Touched → ℕ
packet_clocks [] ts = 0
packet_clocks (f ∷ fs) [] = 2 * beat_count (length f) + 2 + packet_clocks fs []
packet_clocks (f ∷ fs) (t ∷ ts) = 2 * beat_count (length f) + t.writing + 2 + packet_clocks fs ts

-- the clocks that packets may take whose runs are apart: the stages count once
abbrev pub clock_bound_apart : ℕ → List (List ℕ) → List Touched → ℕ
clock_bound_apart s frames ts = packet_clocks frames ts + s + 8

-- ---- line rate: a beat comes and one goes at each clock

-- how many beats the first k of these frames have
abbrev pub beats_before : ℕ → List (List ℕ) → ℕ
beats_before zero fs = 0
beats_before (suc k) [] = 0
beats_before (suc k) (f ∷ fs) = beat_count (length f) + beats_before k fs

-- A frame needs the room of the one S + 4 before it. Between these two as many beats come as it takes the first one to leave, but for so many.
abbrev pub FollowWithin : ℕ → List (List ℕ) → ℕ → Type 0
FollowWithin s frames late = (i : ℕ) → i + s + 4 < length frames → beats_before (suc i) frames + most_beats frames + s + 2 ≤ beats_before (i + s + 4) frames + late

-- The clocks of these frames: one a beat, the longest answer and the stages once, and what comes late as often as all the room is used anew.
abbrev pub line_clocks : ℕ → List (List ℕ) → ℕ → ℕ
line_clocks s frames late = beats_before (length frames) frames + most_beats frames + s + 2 + late * ((length frames - 1) / (s + 4))

-- The clocks until the first k answers are given: as long as line rate takes for the beats of their frames.
abbrev pub wait_clocks : ℕ → List (List ℕ) → ℕ → ℕ → ℕ
wait_clocks s frames late k = beats_before k frames + most_beats frames + s + 2 + late * ((k - 1) / (s + 4))

-- how many operations of these runs write
abbrev pub all_writing : List Touched → ℕ
all_writing [] = 0
all_writing (t ∷ ts) = t.writing + all_writing ts
