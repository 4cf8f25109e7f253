-- What holds of each number of a list.
use Rattle.std.proofs.Common.{◌≡◌, ℕ, suc, ◌≤◌, Bool, true, false, cond, List, [], ◌∷◌, ◌++◌, refl, arith}
use Rattle.std.specs.Prelude.{All, filter}
use Rattle.std.specs.List.{AllByRecursion}
use Rattle.std.proofs.lemmas.List.Elements.{All-cons, All-nil}
use Rattle.hazard_core.specs.cell_core.Rows.{greatest}

pub all_by : (P : ℕ → Type 0) (xs : List ℕ) → All P xs → AllByRecursion P xs
all_by P [] all = tt
all_by P (x ∷ xs) all = (all 0 x (omega arith), all_by P xs (λ k d l. all (suc k) d (omega (arith, l))))

-- of those that pass it holds where passing implies it
pub all_passed : (f : ℕ → Bool) (P : ℕ → Type 0) (xs : List ℕ) → All (λ x. f x ≡ true → P x) xs → All P (filter f xs)
all_passed f P [] all = All-nil P
all_passed f P (x ∷ xs) all = by (f x) refl (all_passed f P xs (λ k d l. all (suc k) d (omega (arith, l))))
  where
    by : (b : Bool) → f x ≡ b → All P (filter f xs) → All P (cond b (x ∷ filter f xs) (filter f xs))
    by true e rest = All-cons P x (filter f xs) (all 0 x (omega arith) e) rest
    by false e rest = rest

-- ---- greatest rows

pub greatest_within : (row : ℕ → ℕ) (n : ℕ) → ((k : ℕ) → row k ≤ n) → (xs : List ℕ) → greatest row xs ≤ n
greatest_within row n small [] = omega arith
greatest_within row n small (x ∷ xs) = omega (arith, small x, greatest_within row n small xs)
