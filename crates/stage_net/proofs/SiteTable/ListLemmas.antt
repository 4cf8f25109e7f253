-- Numbers that pass a test, in their order, and whether some of a list pass one.
use Rattle.std.specs.Prelude.{◌==◌, ◌≢◌, not, Contains}
use Rattle.std.specs.List.{filter, list_any}
use Rattle.std.proofs.Common.{◌≡◌, ◌∙◌, ℕ, zero, suc, ◌+◌, ◌<◌, ◌≤◌, Bool, true, false, ◌||◌, cond, All, List, [], ◌∷◌, ◌++◌, length, take, append-nil, refl, sym, ap, arith, slice_index, ◌⊎◌, inl, inr}
use Rattle.std.proofs.lemmas.Bool.{eqb-true, eqb-false}
use Rattle.std.proofs.lemmas.List.Elements.{filter-append, All-filter}
use Rattle.block_core.proofs.list_laws_laws.BoolLaws.{either_of, left_or, right_or}
use Rattle.hazard_core.specs.cell_core.Rows.{numbers}
use Rattle.hazard_core.proofs.cell_core_laws.NumberLaws.{numbers_more, numbers_below}

differ : (t : Bool) → t ≡ false → t ≡ true → ⊥
differ t f g = cc

module _ (q : ℕ → Bool) where
  abbrev kept : ℕ → ℕ → List ℕ
  kept from n = filter q (numbers from n)

  next : (n : ℕ) → kept 0 (suc n) ≡ kept 0 n ++ cond (q n) (n ∷ []) []
  next n = ap (filter q) (numbers_more 0 n ∙ ap (λ k. numbers 0 n ++ k ∷ []) (omega arith)) ∙ filter-append q (numbers 0 n) (n ∷ [])

  pub kept_more : (n : ℕ) (cells : List ℕ) → q n ≡ true → cells ≡ kept 0 n → cells ++ n ∷ [] ≡ kept 0 (n + 1)
  kept_more n cells there is =
      let e : suc n ≡ n + 1 = omega arith in
      ap (λ xs. xs ++ n ∷ []) is ∙ ap (λ b. kept 0 n ++ cond b (n ∷ []) []) (sym there) ∙ sym (next n) ∙ ap (kept 0) e

  pub kept_same : (n : ℕ) (cells : List ℕ) → q n ≡ false → cells ≡ kept 0 n → cells ≡ kept 0 (n + 1)
  kept_same n cells gone is =
      let e : suc n ≡ n + 1 = omega arith in
      is ∙ sym (append-nil (kept 0 n)) ∙ ap (λ b. kept 0 n ++ cond b (n ∷ []) []) (sym gone) ∙ sym (next n) ∙ ap (kept 0) e

  pub kept_below : (n : ℕ) → All (λ k. k < n) (kept 0 n)
  kept_below n = All-filter q (λ k. k < n) (numbers 0 n) (numbers_below n n 0 (omega arith))

  -- a number that passes is there
  one_in : (x k : ℕ) (rest : List ℕ) → q k ≡ true → (k ≢ x → Contains rest k) → (t : Bool) → q x ≡ t → Contains (cond t (x ∷ rest) rest) k
  one_in x k rest h later true e = by_test (k == x) refl
    where
      by_test : (t : Bool) → (k == x) ≡ t → Contains (x ∷ rest) k
      by_test true s = (0, omega arith, sym (eqb-true k x s))
      by_test false s = let c = later (eqb-false k x s) in (suc c.0, omega (arith, c.1), c.2)
  one_in x k rest h later false e = later (λ s. differ (q x) e (sym (ap q s) ∙ h))

  kept_from : (n from k : ℕ) → from ≤ k → k < from + n → q k ≡ true → Contains (kept from n) k
  kept_from zero from k low high h = absurd (omega arith)
  kept_from (suc n) from k low high h = one_in from k (kept (suc from) n) h (λ s. kept_from n (suc from) k (omega arith) (omega arith) h) (q from) refl

  pub kept_in : (n k : ℕ) → k < n → q k ≡ true → Contains (kept 0 n) k
  kept_in n k lt h = kept_from n 0 k (omega arith) (omega arith) h

  -- before a number those that are less
  one_before : (from i : ℕ) (rest : List ℕ) → from ≤ i → q i ≡ true → ((a : ℕ) → a < length rest → suc from ≤ i → i < slice_index rest a → Contains (take a rest) i)
      → (t : Bool) → q from ≡ t → (a : ℕ) → a < length (cond t (from ∷ rest) rest) → i < slice_index (cond t (from ∷ rest) rest) a → Contains (take a (cond t (from ∷ rest) rest)) i
  one_before from i rest low h later true e zero lt less = absurd (omega arith)
  one_before from i rest low h later true e (suc a) lt less = by_test (i == from) refl
    where
      by_test : (t : Bool) → (i == from) ≡ t → Contains (from ∷ take a rest) i
      by_test true s = (0, omega arith, sym (eqb-true i from s))
      by_test false s = let c = later a (omega arith) (omega (arith, eqb-false i from s)) less in (suc c.0, omega (arith, c.1), c.2)
  one_before from i rest low h later false e a lt less =
      let other : i ≢ from = λ s. differ (q from) e (sym (ap q s) ∙ h) in
      later a lt (omega (arith, other)) less

  before_from : (n from a i : ℕ) → a < length (kept from n) → from ≤ i → i < slice_index (kept from n) a → q i ≡ true → Contains (take a (kept from n)) i
  before_from zero from a i lt low less h = absurd (omega arith)
  before_from (suc n) from a i lt low less h = one_before from i (kept (suc from) n) low h (λ b l g k. before_from n (suc from) b i l g k h) (q from) refl a lt less

  pub kept_before : (n a i : ℕ) → a < length (kept 0 n) → i < slice_index (kept 0 n) a → q i ≡ true → Contains (take a (kept 0 n)) i
  kept_before n a i lt less h = before_from n 0 a i lt (omega arith) less h

-- ---- whether some of a list pass a test

-- one element that passes
pub any_of : {A : Type 0} (q : A → Bool) (xs : List A) (x : A) → Contains xs x → q x ≡ true → list_any q xs ≡ true
any_of q [] x (i, lt, e) h = absurd (omega (arith, lt))
any_of q (y ∷ xs) x (zero, lt, e) h = left_or (q y) (list_any q xs) (ap q e ∙ h)
any_of q (y ∷ xs) x (suc i, lt, e) h = right_or (q y) (list_any q xs) (any_of q xs x (i, omega (arith, lt), e) h)

pub of_any : {A : Type 0} (q : A → Bool) (xs : List A) → list_any q xs ≡ true → (x : A) × Contains xs x × (q x ≡ true)
of_any q [] h = cc
of_any q (y ∷ xs) h = by_cases (either_of (q y) (list_any q xs) h) (of_any q xs)
  where
    by_cases : (q y ≡ true) ⊎ (list_any q xs ≡ true) → (list_any q xs ≡ true → (x : _) × Contains xs x × (q x ≡ true)) → (x : _) × Contains (y ∷ xs) x × (q x ≡ true)
    by_cases (inl e) rest = (y, (0, omega arith, refl), e)
    by_cases (inr e) rest = let r = rest e in (r.0, (suc r.1.0, omega (arith, r.1.1), r.1.2), r.2)

-- ---- tests
pub not_of : (b : Bool) → not b ≡ true → b ≡ false
not_of true e = cc
not_of false e = refl

pub of_not : (b : Bool) → b ≡ false → not b ≡ true
of_not true e = cc
of_not false e = refl

pub test : (b : Bool) → (b ≡ true) ⊎ (b ≡ false)
test true = inl refl
test false = inr refl
