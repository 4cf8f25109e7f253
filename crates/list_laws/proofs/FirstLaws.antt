-- The first that is there of several, step by step.
use Rattle.std.proofs.Common.{◌≡◌, ℕ, zero, suc, ◌+◌, ◌-◌, ◌<◌, ◌≤◌, Option, Some, None, refl, ap, ◌∙◌, arith, inl, inr}
use Rattle.std.proofs.lemmas.Bool.{cases_lt}
use Rattle.std.specs.Option.{option_or}
use Rattle.list_laws.specs.Firsts.{first_from}

pub first_from-next : {X : Type 0} (f : ℕ → Option X) (i n : ℕ) → 0 < n
    → first_from f i n ≡ option_or (f i) (first_from f (i + 1) (n - 1))
first_from-next f i n h =
    let e : n ≡ suc (n - 1) = omega arith in
    let next : suc i ≡ i + 1 = omega arith in
    ap (first_from f i) e ∙ ap (λ k. option_or (f i) (first_from f k (n - 1))) next

-- ---- a loop from i up to n

first_from-up : {X : Type 0} (f : ℕ → Option X) (i n : ℕ) → i < n
    → first_from f i (n - i) ≡ option_or (f i) (first_from f (i + 1) (n - (i + 1)))
first_from-up f i n h =
    let e : n - i - 1 ≡ n - (i + 1) = omega arith in
    first_from-next f i (n - i) (omega arith) ∙ ap (λ k. option_or (f i) (first_from f (i + 1) k)) e

-- one that is not there is passed over
pub first_from-more : {X : Type 0} (f : ℕ → Option X) (i n : ℕ) → i < n → f i ≡ None
    → first_from f i (n - i) ≡ first_from f (i + 1) (n - (i + 1))
first_from-more f i n h none = first_from-up f i n h ∙ ap (λ o. option_or o (first_from f (i + 1) (n - (i + 1)))) none

-- one that is there is the first
pub first_from-found : {X : Type 0} (f : ℕ → Option X) (i n : ℕ) (x : X) → i < n → f i ≡ Some x
    → first_from f i (n - i) ≡ Some x
first_from-found f i n x h found =
    first_from-up f i n h ∙ ap (λ o. option_or o (first_from f (i + 1) (n - (i + 1)))) found

-- none is left
pub first_from-all : {X : Type 0} (f : ℕ → Option X) (i n : ℕ) → n ≤ i → first_from f i (n - i) ≡ None
first_from-all f i n h = let e : n - i ≡ 0 = omega arith in ap (first_from f i) e

pub ruleset firsts = (first_from-more, first_from-found, first_from-all)

-- ---- none of them

pub first_from-none : {X : Type 0} (f : ℕ → Option X) (i n : ℕ) → ((k : ℕ) → i ≤ k → f k ≡ None) → first_from f i n ≡ None
first_from-none f i zero h = refl
first_from-none f i (suc n) h =
    ap (λ o. option_or o (first_from f (suc i) n)) (h i (omega arith)) ∙ first_from-none f (suc i) n (λ k le. h k (omega arith))

option_or-first : {X : Type 0} (o p : Option X) → option_or o p ≡ None → o ≡ None
option_or-first None p e = refl
option_or-first (Some x) p e = e

option_or-second : {X : Type 0} (o p : Option X) → option_or o p ≡ None → p ≡ None
option_or-second None p e = e
option_or-second (Some x) p e = cc

pub none-first_from : {X : Type 0} (f : ℕ → Option X) (i n k : ℕ) → first_from f i n ≡ None → i ≤ k → k < i + n → f k ≡ None
none-first_from f i zero k e low high = absurd (omega arith)
none-first_from f i (suc n) k e low high = elim (cases_lt i k) [
  | inl later ↦ none-first_from f (suc i) n k (option_or-second (f i) (first_from f (suc i) n) e) (omega arith) (omega arith)
  | inr first ↦
      let same : k ≡ i = omega arith in
      ap f same ∙ option_or-first (f i) (first_from f (suc i) n) e
]
