-- Numbers that pass a test, in their order.
use Rattle.std.specs.Prelude.{Contains}
use Rattle.std.specs.List.{filter}
use Rattle.std.proofs.Common.{◌≡◌, ◌∙◌, ◌⊎◌, inl, inr, ℕ, zero, suc, ◌+◌, ◌<◌, ◌≤◌, Bool, true, false, cond, List, [], ◌∷◌, ◌++◌, length, append-nil, refl, sym, ap, arith}
use Rattle.std.proofs.lemmas.List.Elements.{filter-append}
use Rattle.std.proofs.lemmas.List.Sums.{length-filter, count_by-le-length}
use Rattle.hazard_core.specs.cell_core.Rows.{numbers}
use Rattle.hazard_core.proofs.cell_core_laws.NumberLaws.{numbers_more, numbers_long, numbers_below, in_numbers}

-- ---- filters
differ : (t : Bool) → t ≡ false → t ≡ true → ⊥
differ t f g = cc

module _ {X : Type 0} (q : X → Bool) where
  one_in : (y x : X) (rest : List X) → q x ≡ true → (y ≡ x) ⊎ Contains rest x → (t : Bool) → q y ≡ t → Contains (cond t (y ∷ rest) rest) x
  one_in y x rest h (inl s) true e = (0, omega arith, s)
  one_in y x rest h (inr c) true e = (suc c.0, omega (arith, c.1), c.2)
  one_in y x rest h (inl s) false e = absurd (differ (q y) e (ap q s ∙ h))
  one_in y x rest h (inr c) false e = c

  pub in_filter : (xs : List X) (x : X) → Contains xs x → q x ≡ true → Contains (filter q xs) x
  in_filter [] x (i, lt, e) h = absurd (omega (arith, lt))
  in_filter (y ∷ ys) x (zero, lt, e) h = one_in y x (filter q ys) h (inl e) (q y) refl
  in_filter (y ∷ ys) x (suc i, lt, e) h = one_in y x (filter q ys) h (inr (in_filter ys x (i, omega (arith, lt), e) h)) (q y) refl

module _ (q : ℕ → Bool) where
  abbrev kept : ℕ → List ℕ
  kept n = filter q (numbers 0 n)

  next : (n : ℕ) → kept (suc n) ≡ kept n ++ cond (q n) (n ∷ []) []
  next n = ap (filter q) (numbers_more 0 n ∙ ap (λ k. numbers 0 n ++ k ∷ []) (omega arith)) ∙ filter-append q (numbers 0 n) (n ∷ [])

  pub kept_more : (n : ℕ) (cells : List ℕ) → q n ≡ true → cells ≡ kept n → cells ++ n ∷ [] ≡ kept (n + 1)
  kept_more n cells there is =
      let e : suc n ≡ n + 1 = omega arith in
      ap (λ xs. xs ++ n ∷ []) is ∙ ap (λ b. kept n ++ cond b (n ∷ []) []) (sym there) ∙ sym (next n) ∙ ap kept e

  pub kept_same : (n : ℕ) (cells : List ℕ) → q n ≡ false → cells ≡ kept n → cells ≡ kept (n + 1)
  kept_same n cells gone is =
      let e : suc n ≡ n + 1 = omega arith in
      is ∙ sym (append-nil (kept n)) ∙ ap (λ b. kept n ++ cond b (n ∷ []) []) (sym gone) ∙ sym (next n) ∙ ap kept e

  pub kept_there : (n k : ℕ) → k < n → q k ≡ true → Contains (kept n) k
  kept_there n k lt h = in_filter q (numbers 0 n) k (in_numbers n 0 k (omega arith) (omega arith)) h

  pub kept_few : (n : ℕ) (cells : List ℕ) → cells ≡ kept n → length cells ≤ n
  kept_few n cells is = omega (arith, ap length is, length-filter q (numbers 0 n), count_by-le-length q (numbers 0 n), numbers_long 0 n)
