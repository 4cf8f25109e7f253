-- Numbers that pass a test, in their order.
use Rattle.std.specs.Prelude.{◌==◌, ◌≢◌, Contains}
use Rattle.std.specs.List.{filter, list_any}
use Rattle.std.proofs.Common.{◌≡◌, ◌∙◌, ◌⊎◌, inl, inr, ℕ, zero, suc, ◌+◌, ◌<◌, ◌≤◌, Bool, true, false, ◌||◌, cond, List, [], ◌∷◌, ◌++◌, length, take, append-nil, refl, sym, ap, arith, slice_index}
use Rattle.std.proofs.lemmas.Bool.{eqb-true, eqb-false, eq-eqb}
use Rattle.std.proofs.lemmas.List.Elements.{filter-append}
use Rattle.block_core.proofs.list_laws_laws.BoolLaws.{either_of}
use Rattle.overlay_net.specs.cell_core.Rows.{numbers}
use Rattle.row_plan.proofs.cell_core_laws.NumberLaws.{numbers_more}

module _ (q : ℕ → Bool) where
  abbrev kept : ℕ → ℕ → List ℕ
  kept from n = filter q (numbers from n)

  next : (n : ℕ) → kept 0 (suc n) ≡ kept 0 n ++ cond (q n) (n ∷ []) []
  next n = ap (filter q) (numbers_more 0 n ∙ ap (λ k. numbers 0 n ++ k ∷ []) (omega arith)) ∙ filter-append q (numbers 0 n) (n ∷ [])

  pub kept_more : (n : ℕ) (cells : List ℕ) → q n ≡ true → cells ≡ kept 0 n → cells ++ n ∷ [] ≡ kept 0 (n + 1)
  kept_more n cells there is =
      let e : suc n ≡ n + 1 = omega arith in
      ap (λ xs. xs ++ n ∷ []) is ∙ ap (λ b. kept 0 n ++ cond b (n ∷ []) []) (sym there) ∙ sym (next n) ∙ ap (kept 0) e

  pub kept_same : (n : ℕ) (cells : List ℕ) → q n ≡ false → cells ≡ kept 0 n → cells ≡ kept 0 (n + 1)
  kept_same n cells gone is =
      let e : suc n ≡ n + 1 = omega arith in
      is ∙ sym (append-nil (kept 0 n)) ∙ ap (λ b. kept 0 n ++ cond b (n ∷ []) []) (sym gone) ∙ sym (next n) ∙ ap (kept 0) e

  -- a number that passes is there
  one_in : (x k : ℕ) (rest : List ℕ) → q k ≡ true → (k ≢ x → Contains rest k) → (t : Bool) → q x ≡ t → Contains (cond t (x ∷ rest) rest) k
  one_in x k rest h later true e = by_test (k == x) refl
    where
      by_test : (t : Bool) → (k == x) ≡ t → Contains (x ∷ rest) k
      by_test true s = (0, omega arith, sym (eqb-true k x s))
      by_test false s = let c = later (eqb-false k x s) in (suc c.0, omega (arith, c.1), c.2)
  one_in x k rest h later false e = later (λ s. differ (q x) e (sym (ap q s) ∙ h))
    where
      differ : (t : Bool) → t ≡ false → t ≡ true → ⊥
      differ t f g = cc

  pub kept_in : (n from k : ℕ) → from ≤ k → k < from + n → q k ≡ true → Contains (kept from n) k
  kept_in zero from k low high h = absurd (omega arith)
  kept_in (suc n) from k low high h = one_in from k (kept (suc from) n) h (λ s. kept_in n (suc from) k (omega arith) (omega arith) h) (q from) refl

  -- before a number those that are less
  one_before : (from i : ℕ) (rest : List ℕ) → from ≤ i → q i ≡ true → ((a : ℕ) → a < length rest → suc from ≤ i → i < slice_index rest a → Contains (take a rest) i)
      → (t : Bool) → q from ≡ t → (a : ℕ) → a < length (cond t (from ∷ rest) rest) → i < slice_index (cond t (from ∷ rest) rest) a → Contains (take a (cond t (from ∷ rest) rest)) i
  one_before from i rest low h later true e zero lt less = absurd (omega arith)
  one_before from i rest low h later true e (suc a) lt less = by_test (i == from) refl
    where
      by_test : (t : Bool) → (i == from) ≡ t → Contains (from ∷ take a rest) i
      by_test true s = (0, omega arith, sym (eqb-true i from s))
      by_test false s = let c = later a (omega arith) (omega (arith, eqb-false i from s)) less in (suc c.0, omega (arith, c.1), c.2)
  one_before from i rest low h later false e a lt less = later a lt (omega (arith, other)) less
    where
      differ : (t : Bool) → t ≡ false → t ≡ true → ⊥
      differ t f g = cc

      other : i ≢ from
      other s = differ (q from) e (sym (ap q s) ∙ h)

  pub kept_before : (n from a i : ℕ) → a < length (kept from n) → from ≤ i → i < slice_index (kept from n) a → q i ≡ true → Contains (take a (kept from n)) i
  kept_before zero from a i lt low less h = absurd (omega arith)
  kept_before (suc n) from a i lt low less h = one_before from i (kept (suc from) n) low h (λ b l g k. kept_before n (suc from) b i l g k h) (q from) refl a lt less

-- ---- whether a list has a number
or_true : (b : Bool) → (b || true) ≡ true
or_true true = refl
or_true false = refl

pub any_of : (xs : List ℕ) (k : ℕ) → Contains xs k → list_any (λ c. c == k) xs ≡ true
any_of [] k (i, lt, e) = absurd (omega (arith, lt))
any_of (x ∷ xs) k (zero, lt, e) = ap (λ b. b || list_any (λ c. c == k) xs) (eq-eqb x k e)
any_of (x ∷ xs) k (suc i, lt, e) = ap (λ b. (x == k) || b) (any_of xs k (i, omega (arith, lt), e)) ∙ or_true (x == k)

pub of_any : (xs : List ℕ) (k : ℕ) → list_any (λ c. c == k) xs ≡ true → Contains xs k
of_any [] k h = cc
of_any (x ∷ xs) k h = by_cases (either_of (x == k) (list_any (λ c. c == k) xs) h) (of_any xs k)
  where
    by_cases : ((x == k) ≡ true) ⊎ (list_any (λ c. c == k) xs ≡ true) → (list_any (λ c. c == k) xs ≡ true → Contains xs k) → Contains (x ∷ xs) k
    by_cases (inl e) rest = (0, omega arith, eqb-true x k e)
    by_cases (inr e) rest = let c = rest e in (suc c.0, omega (arith, c.1), c.2)
