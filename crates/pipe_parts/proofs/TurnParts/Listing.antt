-- Numbers that pass a test, one after another.
use Rattle.std.specs.Prelude.{Contains}
use Rattle.std.specs.List.{filter, AllPairs}
use Rattle.std.proofs.Common.{◌≡◌, ◌∙◌, ℕ, zero, suc, ◌+◌, ◌<◌, ◌≤◌, Bool, true, false, cond, All, List, [], ◌∷◌, ◌++◌, length, get_or, take, append-nil, refl, ap, arith}
use Rattle.std.proofs.lemmas.List.{take_more}
use Rattle.std.proofs.lemmas.List.Elements.{filter-append, All-nil, All-cons, All-filter}
use Rattle.std.proofs.lemmas.List.Kept.{AllPairs-cons, AllPairs-filter}
use Rattle.std.proofs.lemmas.List.Sums.{length-filter, count_by-le-length}
use Rattle.hazard_core.specs.cell_core.Rows.{numbers}
use Rattle.hazard_core.proofs.cell_core_laws.NumberLaws.{numbers_long, numbers_below}

-- ---- the next of a list
module _ (q : ℕ → Bool) (xs : List ℕ) (i : ℕ) (lt : i < length xs) where
  next : filter q (take (i + 1) xs) ≡ filter q (take i xs) ++ cond (q (get_or xs i 0)) (get_or xs i 0 ∷ []) []
  next = ap (filter q) (take_more xs i 0 lt) ∙ filter-append q (take i xs) (get_or xs i 0 ∷ [])

  pub filter_more : q (get_or xs i 0) ≡ true → filter q (take (i + 1) xs) ≡ filter q (take i xs) ++ get_or xs i 0 ∷ []
  filter_more e = next ∙ ap (λ b. filter q (take i xs) ++ cond b (get_or xs i 0 ∷ []) []) e

  pub filter_same : q (get_or xs i 0) ≡ false → filter q (take (i + 1) xs) ≡ filter q (take i xs)
  filter_same e = next ∙ ap (λ b. filter q (take i xs) ++ cond b (get_or xs i 0 ∷ []) []) e ∙ append-nil (filter q (take i xs))

-- ---- those of all numbers

numbers_behind : (low n from : ℕ) → low < from → All (λ k. low < k) (numbers from n)
numbers_behind low zero from h = All-nil (λ k. low < k)
numbers_behind low (suc n) from h = All-cons (λ k. low < k) from (numbers (suc from) n) h (numbers_behind low n (suc from) (omega arith))

numbers_rise : (from n : ℕ) → AllPairs (λ x y. x < y) (numbers from n)
numbers_rise from zero = λ i j d a b. absurd (omega (arith, b))
numbers_rise from (suc n) = AllPairs-cons (λ x y. x < y) from (numbers (suc from) n) (numbers_behind from n (suc from) (omega arith)) (numbers_rise (suc from) n)

module _ (q : ℕ → Bool) (n : ℕ) where
  pub kept_below : All (λ k. k < n) (filter q (numbers 0 n))
  kept_below = All-filter q (λ k. k < n) (numbers 0 n) (numbers_below n n 0 (omega arith))

  pub kept_rise : AllPairs (λ x y. x < y) (filter q (numbers 0 n))
  kept_rise = AllPairs-filter (λ x y. x < y) q (numbers 0 n) (numbers_rise 0 n)

  pub kept_few : length (filter q (numbers 0 n)) ≤ n
  kept_few = omega (arith, length-filter q (numbers 0 n), count_by-le-length q (numbers 0 n), numbers_long 0 n)

-- ---- one of them
one_in : (q : ℕ → Bool) (y x : ℕ) (rest : List ℕ) → q x ≡ true → y ≡ x → (t : Bool) → q y ≡ t → Contains (cond t (y ∷ rest) rest) x
one_in q y x rest h s true e = (0, omega arith, s)
one_in q y x rest h s false e = absurd (differ (q y) e (ap q s ∙ h))
  where
    differ : (t : Bool) → t ≡ false → t ≡ true → ⊥
    differ t f g = cc

later_in : (y x : ℕ) (rest : List ℕ) → Contains rest x → (t : Bool) → Contains (cond t (y ∷ rest) rest) x
later_in y x rest c true = (suc c.0, omega (arith, c.1), c.2)
later_in y x rest c false = c

pub in_filter : (q : ℕ → Bool) (xs : List ℕ) (x : ℕ) → Contains xs x → q x ≡ true → Contains (filter q xs) x
in_filter q [] x (i, lt, e) h = absurd (omega (arith, lt))
in_filter q (y ∷ ys) x (zero, lt, e) h = one_in q y x (filter q ys) h e (q y) refl
in_filter q (y ∷ ys) x (suc i, lt, e) h = later_in y x (filter q ys) (in_filter q ys x (i, omega (arith, lt), e) h) (q y)
