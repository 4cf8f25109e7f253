-- Frames of one length come late by none.
use Rattle.std.specs.Prelude.{◌≡◌, ℕ, zero, suc, ◌+◌, ◌*◌, ◌≤◌, List, [], ◌∷◌, length}
use Rattle.std.specs.List.{AllByRecursion}
use Rattle.std.proofs.Common.{arith}
use Rattle.std.proofs.Math.Nat.{mul-le-mul_left}
use Rattle.beat_core.specs.Beats.{beat_count}
use Rattle.beat_core.specs.Laws.{IsFrame}
use Rattle.realization.specs.Bounds.{most_beats, beats_before, FollowWithin}

-- each of these frames has so many beats
abbrev pub AreOfBeats : ℕ → List (List ℕ) → Type 0
AreOfBeats beats frames = AllByRecursion (λ f. beat_count (length f) ≡ beats) frames

pub equal_before : (beats : ℕ) (frames : List (List ℕ)) → AreOfBeats beats frames → (k : ℕ) → k ≤ length frames → beats_before k frames ≡ k * beats
equal_before beats frames h zero l = omega arith
equal_before beats [] h (suc k) l = absurd (omega (arith, l))
equal_before beats (f ∷ fs) h (suc k) l = omega (arith, h.0, equal_before beats fs h.1 k (omega (arith, l)))

pub equal_most : (beats : ℕ) (frames : List (List ℕ)) → AreOfBeats beats frames → most_beats frames ≤ beats
equal_most beats [] h = omega arith
equal_most beats (f ∷ fs) h = omega (arith, h.0, equal_most beats fs h.1)

pub equal_follow : (s beats : ℕ) (frames : List (List ℕ)) → AllByRecursion IsFrame frames → AreOfBeats beats frames → FollowWithin s frames 0
equal_follow s beats [] whole h i l = absurd (omega (arith, l))
equal_follow s beats (f ∷ fs) whole h i l =
    let some : 1 ≤ beats = omega (arith, h.0, whole.0.some) in
    let more : (s + 2) * 1 ≤ (s + 2) * beats = mul-le-mul_left (s + 2) some in
    omega (arith, equal_before beats (f ∷ fs) h (suc i) (omega (arith, l)), equal_before beats (f ∷ fs) h (i + s + 4) (omega (arith, l)), equal_most beats (f ∷ fs) h, more)
