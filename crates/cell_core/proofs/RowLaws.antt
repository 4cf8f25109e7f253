-- The greatest row of several cells.
use Rattle.std.proofs.Common.{◌≡◌, ℕ, zero, suc, ◌≤◌, List, [], ◌∷◌, ◌++◌, max, arith}
use Rattle.std.specs.Prelude.{All}
use Rattle.cell_core.specs.Rows.{greatest}

pub greatest_above : (row : ℕ → ℕ) (xs : List ℕ) → All (λ i. row i ≤ greatest row xs) xs
greatest_above row [] k d h = absurd (omega arith)
greatest_above row (x ∷ xs) zero d h = omega arith
greatest_above row (x ∷ xs) (suc k) d h = omega (arith, greatest_above row xs k d (omega arith))

pub greatest_append : (row : ℕ → ℕ) (xs ys : List ℕ) → greatest row (xs ++ ys) ≡ max (greatest row xs) (greatest row ys)
greatest_append row [] ys = omega arith
greatest_append row (x ∷ xs) ys = omega (arith, greatest_append row xs ys)
