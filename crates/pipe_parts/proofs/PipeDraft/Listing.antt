-- Numbers that pass a test, in their order.
use Rattle.std.specs.List.{filter}
use Rattle.std.proofs.Common.{◌≡◌, ◌∙◌, ℕ, zero, suc, ◌+◌, ◌<◌, ◌≤◌, Bool, true, false, cond, All, List, [], ◌∷◌, ◌++◌, length, append-nil, refl, sym, ap, arith}
use Rattle.std.proofs.lemmas.List.Elements.{filter-append, All-filter}
use Rattle.std.proofs.lemmas.List.Sums.{length-filter, count_by-le-length}
use Rattle.hazard_core.specs.cell_core.Rows.{numbers}
use Rattle.hazard_core.proofs.cell_core_laws.NumberLaws.{numbers_more, numbers_long, numbers_below, in_numbers}

-- ---- numbers

-- ---- filters

module _ (q : ℕ → Bool) where
  abbrev kept : ℕ → List ℕ
  kept n = filter q (numbers 0 n)

  next : (n : ℕ) → kept (suc n) ≡ kept n ++ cond (q n) (n ∷ []) []
  next n = ap (filter q) (numbers_more 0 n ∙ ap (λ k. numbers 0 n ++ k ∷ []) (omega arith)) ∙ filter-append q (numbers 0 n) (n ∷ [])

  pub kept_more : (n : ℕ) (cells : List ℕ) → q n ≡ true → cells ≡ kept n → cells ++ n ∷ [] ≡ kept (n + 1)
  kept_more n cells there is =
      let e : suc n ≡ n + 1 = omega arith in
      ap (λ xs. xs ++ n ∷ []) is ∙ ap (λ b. kept n ++ cond b (n ∷ []) []) (sym there) ∙ sym (next n) ∙ ap kept e

  pub kept_same : (n : ℕ) (cells : List ℕ) → q n ≡ false → cells ≡ kept n → cells ≡ kept (n + 1)
  kept_same n cells gone is =
      let e : suc n ≡ n + 1 = omega arith in
      is ∙ sym (append-nil (kept n)) ∙ ap (λ b. kept n ++ cond b (n ∷ []) []) (sym gone) ∙ sym (next n) ∙ ap kept e

  pub kept_below : (n : ℕ) → All (λ k. k < n) (kept n)
  kept_below n = All-filter q (λ k. k < n) (numbers 0 n) (numbers_below n n 0 (omega arith))

  pub kept_few : (n : ℕ) (cells : List ℕ) → cells ≡ kept n → length cells ≤ n
  kept_few n cells is = omega (arith, ap length is, length-filter q (numbers 0 n), count_by-le-length q (numbers 0 n), numbers_long 0 n)
