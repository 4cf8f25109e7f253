-- Numbers that pass a test, in their order.
use Rattle.std.specs.Prelude.{Contains, ◌==◌, ◌≢◌}
use Rattle.std.specs.List.{filter}
use Rattle.std.proofs.Common.{◌≡◌, ◌∙◌, ℕ, zero, suc, ◌+◌, ◌<◌, ◌≤◌, Bool, true, false, cond, All, List, [], ◌∷◌, ◌++◌, append-nil, refl, sym, ap, arith}
use Rattle.std.proofs.lemmas.Bool.{eqb-true, eqb-false}
use Rattle.std.proofs.lemmas.List.Elements.{filter-append, All-filter}
use Rattle.hazard_core.specs.cell_core.Rows.{numbers}
use Rattle.hazard_core.proofs.cell_core_laws.NumberLaws.{numbers_more, numbers_below}

differ : (t : Bool) → t ≡ false → t ≡ true → ⊥
differ t f g = cc

module _ (q : ℕ → Bool) where
  abbrev kept : ℕ → ℕ → List ℕ
  kept from n = filter q (numbers from n)

  next : (n : ℕ) → kept 0 (suc n) ≡ kept 0 n ++ cond (q n) (n ∷ []) []
  next n = ap (filter q) (numbers_more 0 n ∙ ap (λ k. numbers 0 n ++ k ∷ []) (omega arith)) ∙ filter-append q (numbers 0 n) (n ∷ [])

  pub kept_more : (n : ℕ) (cells : List ℕ) → q n ≡ true → cells ≡ kept 0 n → cells ++ n ∷ [] ≡ kept 0 (n + 1)
  kept_more n cells there is =
      let e : suc n ≡ n + 1 = omega arith in
      ap (λ xs. xs ++ n ∷ []) is ∙ ap (λ b. kept 0 n ++ cond b (n ∷ []) []) (sym there) ∙ sym (next n) ∙ ap (kept 0) e

  pub kept_same : (n : ℕ) (cells : List ℕ) → q n ≡ false → cells ≡ kept 0 n → cells ≡ kept 0 (n + 1)
  kept_same n cells gone is =
      let e : suc n ≡ n + 1 = omega arith in
      is ∙ sym (append-nil (kept 0 n)) ∙ ap (λ b. kept 0 n ++ cond b (n ∷ []) []) (sym gone) ∙ sym (next n) ∙ ap (kept 0) e

  pub kept_below : (n : ℕ) → All (λ k. k < n) (kept 0 n)
  kept_below n = All-filter q (λ k. k < n) (numbers 0 n) (numbers_below n n 0 (omega arith))

  -- a number that passes is there
  one_in : (x k : ℕ) (rest : List ℕ) → q k ≡ true → (k ≢ x → Contains rest k) → (t : Bool) → q x ≡ t → Contains (cond t (x ∷ rest) rest) k
  one_in x k rest h later true e = by_test (k == x) refl
    where
      by_test : (t : Bool) → (k == x) ≡ t → Contains (x ∷ rest) k
      by_test true s = (0, omega arith, sym (eqb-true k x s))
      by_test false s = let c = later (eqb-false k x s) in (suc c.0, omega (arith, c.1), c.2)
  one_in x k rest h later false e = later (λ s. differ (q x) e (sym (ap q s) ∙ h))

  kept_from : (n from k : ℕ) → from ≤ k → k < from + n → q k ≡ true → Contains (kept from n) k
  kept_from zero from k low high h = absurd (omega arith)
  kept_from (suc n) from k low high h = one_in from k (kept (suc from) n) h (λ s. kept_from n (suc from) k (omega arith) (omega arith) h) (q from) refl

  pub kept_in : (n k : ℕ) → k < n → q k ≡ true → Contains (kept 0 n) k
  kept_in n k lt h = kept_from n 0 k (omega arith) (omega arith) h
