-- Numbers that a filter keeps, and elements by their places.
use Rattle.std.specs.Prelude.{cond, filter, slice_index, Some, if◌then◌else◌}
use Rattle.std.specs.List.{find}
use Rattle.std.proofs.Common.{◌≡◌, ◌≢◌, ℕ, zero, suc, ◌+◌, ◌==◌, ◌<◌, ◌≤◌, Bool, true, false, List, [], ◌∷◌, length, get_or, inl, inr, refl, sym, ◌∙◌, ap, arith}
use Rattle.std.proofs.lemmas.Bool.{cases_lt, eq-eqb, eqb-true, eqb-false}
use Rattle.hazard_core.specs.cell_core.Rows.{numbers}

-- ---- an element and its place
pub element : {A : Type 0} (xs : List A) (k : ℕ) → k < length xs → A
element [] k l = absurd (omega (arith, l))
element (x ∷ xs) zero l = x
element (x ∷ xs) (suc k) l = element xs k (omega (arith, l))

pub element_is : {A : Type 0} (xs : List A) (k : ℕ) (l : k < length xs) (d : A) → get_or xs k d ≡ element xs k l
unfolding element
element_is [] k l d = absurd (omega (arith, l))
element_is (x ∷ xs) zero l d = refl
element_is (x ∷ xs) (suc k) l d = element_is xs k (omega (arith, l)) d

-- a number of a list stands at this place
pub record StandsAt (xs : List ℕ) (j : ℕ) : Type 0 where
  pub place : ℕ
  pub within : place < length xs
  pub is : slice_index xs place ≡ j

later : (x : ℕ) (xs : List ℕ) (j : ℕ) → StandsAt xs j → StandsAt (x ∷ xs) j
later x xs j at = record { place = suc at.place; within = omega (arith, at.within); is = at.is }

first : (x : ℕ) (xs : List ℕ) (j : ℕ) → x ≡ j → StandsAt (x ∷ xs) j
first x xs j e = record { place = 0; within = omega arith; is = e }

pub found_at : (test : ℕ → Bool) (xs : List ℕ) (j : ℕ) → find test xs ≡ Some j → (test j ≡ true) × StandsAt xs j
found_at test [] j e = cc
found_at test (x ∷ xs) j e = by (test x) refl e (found_at test xs j)
  where
    by : (c : Bool) → test x ≡ c → (if c then Some x else find test xs) ≡ Some j → (find test xs ≡ Some j → (test j ≡ true) × StandsAt xs j) → (test j ≡ true) × StandsAt (x ∷ xs) j
    by true q e rest = let same : x ≡ j = cc in (ap test (sym same) ∙ q, first x xs j same)
    by false q e rest = let w : (test j ≡ true) × StandsAt xs j = rest e in (w.0, later x xs j w.1)

pub kept_at : (q : ℕ → Bool) (xs : List ℕ) (j k : ℕ) → k < length xs → slice_index xs k ≡ j → q j ≡ true → StandsAt (filter q xs) j
kept_at q [] j k l e t = absurd (omega (arith, l))
kept_at q (x ∷ xs) j zero l e t = by (q x) (ap q e ∙ t)
  where
    by : (c : Bool) → c ≡ true → StandsAt (cond c (x ∷ filter q xs) (filter q xs)) j
    by true s = first x (filter q xs) j e
    by false s = cc
kept_at q (x ∷ xs) j (suc k) l e t = by (q x) (kept_at q xs j k (omega (arith, l)) e t)
  where
    by : (c : Bool) → StandsAt (filter q xs) j → StandsAt (cond c (x ∷ filter q xs) (filter q xs)) j
    by true at = later x (filter q xs) j at
    by false at = at

below_numbers : (from n k : ℕ) → k < length (numbers from n) → slice_index (numbers from n) k < from + n
below_numbers from zero k l = absurd (omega (arith, l))
below_numbers from (suc n) zero l = omega arith
below_numbers from (suc n) (suc k) l = let m : slice_index (numbers (suc from) n) k < suc from + n = below_numbers (suc from) n k (omega (arith, l)) in omega (arith, m)

pub at_number : (n j : ℕ) → StandsAt (numbers 0 n) j → j < n
at_number n j at = let below = below_numbers 0 n at.place at.within in let is = at.is in omega (arith, below, is)

-- ---- numbers that rise from one on
abbrev pub RiseFrom : ℕ → List ℕ → Type 0
RiseFrom n [] = Unit {0}
RiseFrom n (x ∷ xs) = (n ≤ x) × RiseFrom (suc x) xs

weaker : (m n : ℕ) (xs : List ℕ) → m ≤ n → RiseFrom n xs → RiseFrom m xs
weaker m n [] l h = tt
weaker m n (x ∷ xs) l h = (omega (arith, l, h.0), h.1)

pub numbers_rise : (from n : ℕ) → RiseFrom from (numbers from n)
numbers_rise from zero = tt
numbers_rise from (suc n) = (omega arith, numbers_rise (suc from) n)

pub filter_rises : (q : ℕ → Bool) (from : ℕ) (xs : List ℕ) → RiseFrom from xs → RiseFrom from (filter q xs)
filter_rises q from [] h = tt
filter_rises q from (x ∷ xs) h = by (q x) (filter_rises q (suc x) xs h.1)
  where
    by : (c : Bool) → RiseFrom (suc x) (filter q xs) → RiseFrom from (cond c (x ∷ filter q xs) (filter q xs))
    by true rest = (h.0, rest)
    by false rest = weaker from (suc x) (filter q xs) (omega (arith, h.0)) rest

above : (from : ℕ) (xs : List ℕ) → RiseFrom from xs → (k : ℕ) → k < length xs → from ≤ slice_index xs k
above from [] h k l = absurd (omega (arith, l))
above from (x ∷ xs) h zero l = h.0
above from (x ∷ xs) h (suc k) l = let m : suc x ≤ slice_index xs k = above (suc x) xs h.1 k (omega (arith, l)) in omega (arith, h.0, m)

-- so no two places have the same
pub places_differ : (from : ℕ) (xs : List ℕ) → RiseFrom from xs → (i k : ℕ) → i < k → k < length xs → slice_index xs i < slice_index xs k
places_differ from [] h i k l m = absurd (omega (arith, m))
places_differ from (x ∷ xs) h i zero l m = absurd (omega (arith, l))
places_differ from (x ∷ xs) h zero (suc k) l m = above (suc x) xs h.1 k (omega (arith, m))
places_differ from (x ∷ xs) h (suc i) (suc k) l m = places_differ (suc x) xs h.1 i k (omega (arith, l)) (omega (arith, m))

no_test : (a b : ℕ) → a ≢ b → (a == b) ≡ false
no_test a b n = by (a == b) refl
  where
    by : (c : Bool) → (a == b) ≡ c → c ≡ false
    by true e = absurd (n (eqb-true a b e))
    by false e = refl

-- whether a number is that of a place
pub same_place : (from : ℕ) (xs : List ℕ) → RiseFrom from xs → (i k : ℕ) → i < length xs → k < length xs → (slice_index xs k == slice_index xs i) ≡ (i == k)
same_place from xs h i k l m = by (i == k) refl
  where
    apart : i ≢ k → (slice_index xs k == slice_index xs i) ≡ false
    apart n = elim (cases_lt i k) [
      | inl less ↦ let x : slice_index xs i < slice_index xs k = places_differ from xs h i k less m in no_test (slice_index xs k) (slice_index xs i) (λ e. omega (arith, x, e))
      | inr more ↦ elim (cases_lt k i) [
        | inl less ↦ let x : slice_index xs k < slice_index xs i = places_differ from xs h k i less l in no_test (slice_index xs k) (slice_index xs i) (λ e. omega (arith, x, e))
        | inr less ↦ absurd (n (omega (arith, more, less)))
      ]
    ]

    by : (c : Bool) → (i == k) ≡ c → (slice_index xs k == slice_index xs i) ≡ c
    by true e = let same : i ≡ k = eqb-true i k e in ap (λ n. slice_index xs k == slice_index xs n) same ∙ eq-eqb (slice_index xs k) (slice_index xs k) refl
    by false e = apart (eqb-false i k e)
