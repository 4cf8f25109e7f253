-- The bytes of a frame in its memory.
use Rattle.std.proofs.Common.{◌≡◌, ◌≤◌, ℕ, zero, suc, List, [], ◌∷◌, refl, ap, set, take, length, min, arith}
use Rattle.realization.specs.beat_core.declared.beat.Beat.{Beat}
use Rattle.realization.specs.beat_core.Beats.{bytes_of_beat}
use Rattle.realization.proofs.beat_core_laws.WordLaws.{length-low_bytes}

pub few_bytes : (b : Beat) → length (bytes_of_beat b) ≤ 8
few_bytes b = omega (arith, length-low_bytes (min b.bytes 8) b.word)

-- a byte of those that are taken
pub put_taken : (n : ℕ) (xs : List ℕ) (i y : ℕ) → set (take n xs) i y ≡ take n (set xs i y)
put_taken zero xs i y = refl
put_taken (suc n) [] i y = refl
put_taken (suc n) (x ∷ xs) zero y = refl
put_taken (suc n) (x ∷ xs) (suc i) y = ap (λ (ys : List ℕ). x ∷ ys) (put_taken n xs i y)
