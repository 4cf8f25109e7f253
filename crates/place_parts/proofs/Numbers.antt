-- Numbers that pass a test, in their order.
use Rattle.std.specs.Prelude.{Contains, AllPairs}
use Rattle.std.specs.List.{filter}
use Rattle.std.proofs.Common.{◌≡◌, ℕ, zero, suc, ◌+◌, ◌<◌, ◌≤◌, Bool, true, false, cond, All, List, [], ◌∷◌, length, get_or, ◌⊎◌, inl, inr, refl, ap, ◌∙◌, arith}
use Rattle.std.proofs.lemmas.Bool.{cases_eq, cases_lt}
use Rattle.std.proofs.lemmas.List.Elements.{All-nil, All-cons, All-filter}
use Rattle.std.proofs.lemmas.List.Kept.{AllPairs-cons, AllPairs-filter}
use Rattle.hazard_core.specs.cell_core.Rows.{numbers}
use Rattle.hazard_core.proofs.cell_core_laws.NumberLaws.{in_numbers}

numbers_from : (n from least : ℕ) → least ≤ from → All (λ k. least ≤ k) (numbers from n)
numbers_from zero from least h = All-nil (λ k. least ≤ k)
numbers_from (suc n) from least h = All-cons (λ k. least ≤ k) from (numbers (suc from) n) h (numbers_from n (suc from) least (omega (arith, h)))

numbers_below : (n from most : ℕ) → from + n ≤ most → All (λ k. k < most) (numbers from n)
numbers_below zero from most h = All-nil (λ k. k < most)
numbers_below (suc n) from most h = All-cons (λ k. k < most) from (numbers (suc from) n) (omega (arith, h)) (numbers_below n (suc from) most (omega (arith, h)))

numbers_rise : (n from : ℕ) → AllPairs (λ a b. a < b) (numbers from n)
numbers_rise zero from = λ i j d lt within. absurd (omega (arith, within))
numbers_rise (suc n) from = AllPairs-cons (λ a b. a < b) from (numbers (suc from) n) (λ i d lt. numbers_from n (suc from) (suc from) (omega arith) i d lt) (numbers_rise n (suc from))

-- ---- those that pass
differ : (t : Bool) → t ≡ false → t ≡ true → ⊥
differ t f g = cc

module _ {X : Type 0} (q : X → Bool) where
  one_in : (y x : X) (rest : List X) → q x ≡ true → (y ≡ x) ⊎ Contains rest x → (t : Bool) → q y ≡ t → Contains (cond t (y ∷ rest) rest) x
  one_in y x rest h (inl s) true e = (0, omega arith, s)
  one_in y x rest h (inr c) true e = (suc c.0, omega (arith, c.1), c.2)
  one_in y x rest h (inl s) false e = absurd (differ (q y) e (ap q s ∙ h))
  one_in y x rest h (inr c) false e = c

  in_filter : (xs : List X) (x : X) → Contains xs x → q x ≡ true → Contains (filter q xs) x
  in_filter [] x (i, lt, e) h = absurd (omega (arith, lt))
  in_filter (y ∷ ys) x (zero, lt, e) h = one_in y x (filter q ys) h (inl e) (q y) refl
  in_filter (y ∷ ys) x (suc i, lt, e) h = one_in y x (filter q ys) h (inr (in_filter ys x (i, omega (arith, lt), e) h)) (q y) refl

module _ (q : ℕ → Bool) (n : ℕ) where
  abbrev passing : List ℕ
  passing = filter q (numbers 0 n)

  pub passing_below : All (λ k. k < n) passing
  passing_below = All-filter q (λ k. k < n) (numbers 0 n) (numbers_below n 0 n (omega arith))

  pub passing_in : (k : ℕ) → k < n → q k ≡ true → Contains passing k
  passing_in k lt h = in_filter q (numbers 0 n) k (in_numbers n 0 k (omega arith) (omega (arith, lt))) h

  -- no number stands twice among them
  pub passing_once : (i j : ℕ) → i < length passing → j < length passing → get_or passing i 0 ≡ get_or passing j 0 → i ≡ j
  passing_once i j low high same = elim (cases_eq i j) [
    | inl e ↦ e
    | inr o ↦ elim (cases_lt i j) [
      | inl l ↦ absurd (omega (arith, same, rise i j 0 l high))
      | inr g ↦ absurd (omega (arith, same, rise j i 0 (omega (arith, g, o)) low))
    ]
  ]
    where
      rise : AllPairs (λ a b. a < b) passing
      rise = AllPairs-filter (λ a b. a < b) q (numbers 0 n) (numbers_rise n 0)
