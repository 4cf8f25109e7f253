-- Flags of cells.
use Rattle.std.proofs.Common.{◌≡◌, ℕ, zero, suc, ◌<◌, Bool, true, List, [], ◌∷◌, length, arith}
use Rattle.row_net.specs.Needed.{flag}

-- what is marked is one of them
pub marked_inside : (xs : List Bool) (k : ℕ) → flag xs k ≡ true → k < length xs
marked_inside [] k h = cc
marked_inside (x ∷ xs) zero h = omega arith
marked_inside (x ∷ xs) (suc k) h = omega (arith, marked_inside xs k h)
