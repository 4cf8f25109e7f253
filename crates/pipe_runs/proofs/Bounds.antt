-- The stated clocks are enough.
use Rattle.std.specs.Prelude.{◌≡◌, ℕ, zero, suc, ◌+◌, ◌*◌, ◌^◌, ◌<◌, ◌≤◌, List, [], ◌∷◌, ◌++◌, length, map}
use Rattle.std.specs.List.{flat_map, AllByRecursion}
use Rattle.std.proofs.Common.{arith, length-append}
use Rattle.std.proofs.Math.Nat.{pow-le-pow_right}
use Rattle.cell_core.specs.beat_core.declared.beat.Beat.{Beat}
use Rattle.cell_core.specs.beat_core.Beats.{beats_of, IsFilledUp}
use Rattle.cell_core.specs.beat_core.Clocks.{AreOffers}
use Rattle.cell_core.specs.beat_core.Laws.{IsFrame}
use Rattle.cell_core.specs.beat_core.Ports.{Arrival, Offered, offered}
use Rattle.cell_core.proofs.beat_core_laws.BeatLaws.{length-beats_of, IsFilledUp-beats_of, IsOffer-count}
use Rattle.cell_core.specs.xdp_maps.State.{MapState}
use Rattle.cell_core.specs.xdp_maps.Touched.{Resource}
use Rattle.cell_core.specs.xdp_machine.Touched.{Touched}
use Rattle.cell_core.specs.Sites.{ProgramView, after}
use Rattle.cell_core.specs.Rows.{record_count}
use Rattle.pipe_core.specs.Machine.{Build}
use Rattle.pipe_core.specs.Drive.{clocks_of}
use Rattle.pipe_core.specs.Apart as pipe
use Rattle.pipe_core.specs.Apart.{AllRun}
use Rattle.pipe_core.specs.realization.Bounds.{all_writing, most_beats, clock_bound, packet_clocks, ReadOthers, ConflictFree}
use Rattle.pipe_core.specs.realization.Realizes.{IsPacket, IsBeside, offers_from, all_offers, beats_offered}
use Rattle.pipe_runs.proofs.Histories.{all_append}
use Rattle.pipe_runs.proofs.Drives.{Fits}

-- ---- whatever packets
beats_bound : (frames : List (List ℕ)) (most : ℕ) → most_beats frames ≤ most → length (flat_map beats_of frames) ≤ length frames * most
beats_bound [] most h = omega arith
beats_bound (f ∷ fs) most h =
    let r = beats_bound fs most (omega arith) in
    omega (arith, r, length-append (beats_of f) (flat_map beats_of fs), length-beats_of f)

enough : (n s most q beats : ℕ) → beats ≤ n * most → 2 * beats + n * (s + q + 3) ≤ n * (s + 2 * most + q + 8)
enough n s most q beats h = omega (arith, h)

one_more : (n s most q clocks : ℕ) → clocks ≤ n * (s + 2 * most + q + 8) → clocks + s + 2 ≤ (n + 1) * (s + 2 * most + q + 8) + 1
one_more n s most q clocks h = omega (arith, h)

pub bound_enough : (b : Build) (frames : List (List ℕ)) → clocks_of b frames ≤ clock_bound (length frames) b.plan.last (most_beats frames) (record_count b.program.sites)
bound_enough b frames = enough (length frames) b.plan.last (most_beats frames) (record_count b.program.sites) (length (flat_map beats_of frames)) (beats_bound frames (most_beats frames) (omega arith))

pub late_enough : (b : Build) (frames : List (List ℕ)) → clocks_of b frames + b.plan.last + 2 ≤ clock_bound (length frames + 1) b.plan.last (most_beats frames) (record_count b.program.sites) + 1
late_enough b frames = one_more (length frames) b.plan.last (most_beats frames) (record_count b.program.sites) (clocks_of b frames) (bound_enough b frames)

-- ---- packets that do not conflict
-- the operations that write, of the runs of these frames
abbrev pub written : List (List ℕ) → List Touched → ℕ
written [] ts = 0
written (f ∷ fs) [] = 0
written (f ∷ fs) (t ∷ ts) = t.writing + written fs ts

pub apart_enough : (frames : List (List ℕ)) (ts : List Touched) → 2 * length (flat_map beats_of frames) + length frames + written frames ts ≤ packet_clocks frames ts
apart_enough [] ts = omega arith
apart_enough (f ∷ fs) [] =
    let r = apart_enough fs [] in
    omega (arith, r, length-append (beats_of f) (flat_map beats_of fs), length-beats_of f)
apart_enough (f ∷ fs) (t ∷ ts) =
    let r = apart_enough fs ts in
    omega (arith, r, length-append (beats_of f) (flat_map beats_of fs), length-beats_of f)

pub all_written : (p : ProgramView) (maps : MapState) (cs : List Arrival) (ts : List Touched) (frames : List (List ℕ)) → AllRun p maps cs ts → length frames ≡ length cs → all_writing ts ≤ written frames ts
all_written p maps [] [] frames h e = omega arith
all_written p maps [] (t ∷ ts) frames h e = absurd h
all_written p maps (c ∷ cs) [] frames h e = absurd h
all_written p maps (c ∷ cs) (t ∷ ts) [] h e = absurd (omega (arith, e))
all_written p maps (c ∷ cs) (t ∷ ts) (f ∷ fs) h e = omega (arith, all_written p (after h.0 maps p.sites) cs ts fs h.3 (omega (arith, e)))

read_others : (n : ℕ) (writes : List Resource) (ts : List Touched) → ReadOthers n writes ts → pipe.ReadOthers n writes ts
read_others zero writes ts h = tt
read_others (suc n) writes [] h = tt
read_others (suc n) writes (t ∷ ts) h = (h.0, read_others n writes ts h.1)

pub conflict_free : (n : ℕ) (ts : List Touched) → ConflictFree n ts → pipe.ConflictFree n ts
conflict_free n [] h = tt
conflict_free n (t ∷ ts) h = (read_others n t.writes ts h.0, conflict_free n ts h.1)

-- ---- the beats of frames fit their ports
pub all_filled : (frames : List (List ℕ)) → AllByRecursion IsFrame frames → AllByRecursion IsFilledUp (flat_map beats_of frames)
all_filled [] h = tt
all_filled (f ∷ fs) h = all_append IsFilledUp (beats_of f) (flat_map beats_of fs) (IsFilledUp-beats_of f h.0.bytes) (all_filled fs h.1)

pub all_behind : {A : Type 0} (P : A → Type 0) (xs ys : List A) → AllByRecursion P (xs ++ ys) → AllByRecursion P ys
all_behind P [] ys h = h
all_behind P (x ∷ xs) ys h = all_behind P xs ys h.1

pub all_fit : (n : ℕ) (left : List Offered) → AllByRecursion IsFilledUp (beats_offered left) → AreOffers n (beats_offered left) → AllByRecursion IsBeside left → AllByRecursion Fits left
all_fit n [] filled offers beside = tt
all_fit n (o ∷ os) filled offers beside =
    let few = IsOffer-count o.beat offers.0 in
    let pow : 256 ^ o.beat.bytes ≤ 256 ^ 8 = pow-le-pow_right {n = 256} (omega arith) {i = o.beat.bytes} {j = 8} few.1 in (
      record { word = omega (arith, filled.0, pow); bytes = omega (arith, few); beside = beside.0 },
      all_fit _ os filled.1 offers.2 beside.1,
    )

beside_from : (ifindex time : ℕ) → ifindex < 2 ^ 32 → time < 2 ^ 64 → (bs : List Beat) → AllByRecursion IsBeside (map (offered ifindex time) bs)
beside_from ifindex time i t [] = tt
beside_from ifindex time i t (b ∷ bs) = (record { ifindex = i; time = t }, beside_from ifindex time i t bs)

pub all_beside : (packets : List Arrival) → AllByRecursion IsPacket packets → AllByRecursion IsBeside (all_offers packets)
all_beside [] h = tt
all_beside (a ∷ rest) h = all_append IsBeside (offers_from a) (all_offers rest) (beside_from a.ifindex a.time h.0.ifindex h.0.time (beats_of a.frame)) (all_beside rest h.1)
