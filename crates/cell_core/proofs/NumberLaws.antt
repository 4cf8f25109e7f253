-- The numbers from one on.
use Rattle.std.specs.Prelude.{Contains, map as map_list, All}
use Rattle.std.proofs.Common.{◌≡◌, ℕ, zero, suc, ◌+◌, ◌<◌, ◌≤◌, Bool, false, [], ◌∷◌, ◌++◌, length, get_or, refl, ap, ◌∙◌, arith, inl, inr}
use Rattle.std.proofs.lemmas.Bool.{cases_eq}
use Rattle.std.proofs.lemmas.List.Elements.{All-nil, All-cons}
use Rattle.cell_core.specs.Rows.{numbers}

-- one more at the end
pub numbers_more : (from n : ℕ) → numbers from (suc n) ≡ numbers from n ++ (from + n) ∷ []
numbers_more from zero = ap (λ k. k ∷ []) (omega arith)
numbers_more from (suc n) = ap (λ l. from ∷ l) (numbers_more (suc from) n ∙ ap (λ k. numbers (suc from) n ++ k ∷ []) (omega arith))

pub numbers_long : (from n : ℕ) → length (numbers from n) ≡ n
numbers_long from zero = refl
numbers_long from (suc n) = ap suc (numbers_long (suc from) n)

-- ---- which they are
pub numbers_below : (most n from : ℕ) → from + n ≤ most → All (λ k. k < most) (numbers from n)
numbers_below most zero from h = All-nil (λ k. k < most)
numbers_below most (suc n) from h = All-cons (λ k. k < most) from (numbers (suc from) n) (omega arith) (numbers_below most n (suc from) (omega arith))

pub in_numbers : (n from k : ℕ) → from ≤ k → k < from + n → Contains (numbers from n) k
in_numbers zero from k low high = absurd (omega (arith, low, high))
in_numbers (suc n) from k low high = elim (cases_eq from k) [
  | inl e ↦ (0, omega arith, e)
  | inr o ↦ let c = in_numbers n (suc from) k (omega (arith, low, o)) (omega (arith, high)) in (suc c.0, omega (arith, c.1), c.2)
]

-- ---- a flag of each
numbered : (f : ℕ → Bool) (from n j : ℕ) → j < n → get_or (map_list f (numbers from n)) j false ≡ f (from + j)
numbered f from zero j l = absurd (omega arith)
numbered f from (suc n) zero l = ap f (omega arith)
numbered f from (suc n) (suc j) l = numbered f (suc from) n j (omega arith) ∙ ap f (omega arith)

pub marked_of : (f : ℕ → Bool) (n j : ℕ) → j < n → get_or (map_list f (numbers 0 n)) j false ≡ f j
marked_of f n j l = numbered f 0 n j l ∙ ap f (omega arith)
