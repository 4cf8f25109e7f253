-- The first slot that passes a test.
use Rattle.std.specs.Prelude.{nat_lt, if◌then◌else◌, not}
use Rattle.std.specs.List.{position_or_len}
use Rattle.std.proofs.Common.{◌≡◌, ◌⊎◌, inl, inr, ℕ, zero, suc, ◌+◌, ◌%◌, ◌^◌, ◌<◌, ◌≤◌, Bool, true, false, List, length, get_or, refl, sym, ◌∙◌, ap, arith, div-one}
use Rattle.std.proofs.lemmas.Bool.{cases_lt, lt-ltb, le-ltb}
use Rattle.std.proofs.lemmas.List.Sums.{fails_before_first, prefix_len_stops}
use Rattle.overlay_net.specs.cell_core.Cells.{bits_from}
use Rattle.hash_net.specs.SlotNet.Choosing.{chosen}

pub from_zero : (n w : ℕ) → bits_from n 0 w ≡ n % 2 ^ w
from_zero n w = ap (λ y. y % 2 ^ w) (div-one n)

either_small : (b : Bool) (x y bound : ℕ) → x < bound → y < bound → (if b then x else y) < bound
either_small true x y bound h k = h
either_small false x y bound h k = k

module _ (number : ℕ → ℕ) (hit : ℕ → Bool) (none : ℕ) where
  -- a choice before another one
  pub chosen_behind : (at n m to total : ℕ) → to ≡ at + n → total ≡ n + m → chosen number hit (chosen number hit none to m) at n ≡ chosen number hit none at total
  chosen_behind at zero m to total e f =
      let p : to ≡ at = omega arith in
      let q : m ≡ total = omega arith in
      ap (λ k. chosen number hit none k m) p ∙ ap (chosen number hit none at) q
  chosen_behind at (suc n) m to total e f =
      let q : suc (n + m) ≡ total = omega arith in
      ap (λ k. if hit at then number at else k) (chosen_behind (suc at) n m to (n + m) (omega arith) refl) ∙ ap (chosen number hit none at) q

  pub chosen_small : (bound at n : ℕ) → none < bound → ((k : ℕ) → k < at + n → number k < bound) → chosen number hit none at n < bound
  chosen_small bound at zero l h = l
  chosen_small bound at (suc n) l h = either_small (hit at) (number at) (chosen number hit none (suc at) n) bound (h at (omega arith)) (chosen_small bound (suc at) n l (λ k m. h k (omega arith)))

  -- none before one is hit, and this one is
  pub chosen_at : (at n i : ℕ) → at ≤ i → i < at + n → ((k : ℕ) → at ≤ k → k < i → hit k ≡ false) → hit i ≡ true → chosen number hit none at n ≡ number i
  chosen_at at zero i l m f t = absurd (omega arith)
  chosen_at at (suc n) i l m f t = by_order (λ less. chosen_at (suc at) n i (omega arith) (omega arith) (λ k a b. f k (omega arith) b) t) (cases_lt at i)
    where
      by_order : (at < i → chosen number hit none (suc at) n ≡ number i) → (at < i) ⊎ (i ≤ at) → (if hit at then number at else chosen number hit none (suc at) n) ≡ number i
      by_order later (inl less) = ap (λ b. if b then number at else chosen number hit none (suc at) n) (f at (omega arith) less) ∙ later less
      by_order later (inr over) =
          let same : at ≡ i = omega arith in
          ap (λ b. if b then number at else chosen number hit none (suc at) n) (ap hit same ∙ t) ∙ ap number same

  -- none is
  pub chosen_none : (at n : ℕ) → ((k : ℕ) → at ≤ k → k < at + n → hit k ≡ false) → chosen number hit none at n ≡ none
  chosen_none at zero f = refl
  chosen_none at (suc n) f = ap (λ b. if b then number at else chosen number hit none (suc at) n) (f at (omega arith) (omega arith)) ∙ chosen_none (suc at) n (λ k l m. f k (omega arith) (omega arith))

turned : (b : Bool) → not b ≡ false → b ≡ true
turned true e = refl
turned false e = sym e

-- by the elements of a list that pass a test: the first of them, where there is one
pub chosen_first :
    {X : Type 0} (number : ℕ → ℕ) (hit : ℕ → Bool) (none : ℕ) (p : X → Bool) (d : X) (xs : List X) (n : ℕ) → length xs ≡ n → ((k : ℕ) → k < n → hit k ≡ p (get_or xs k d))
    → chosen number hit none 0 n ≡ (if nat_lt (position_or_len p xs) (length xs) then number (position_or_len p xs) else none)
chosen_first number hit none p d xs n e h = by_order (cases_lt (position_or_len p xs) (length xs))
  where
    by_order : (position_or_len p xs < length xs) ⊎ (length xs ≤ position_or_len p xs) → chosen number hit none 0 n ≡ (if nat_lt (position_or_len p xs) (length xs) then number (position_or_len p xs) else none)
    by_order (inl some) =
        chosen_at number hit none 0 n (position_or_len p xs) (omega arith) (omega arith) (λ k l m. h k (omega arith) ∙ fails_before_first p xs k d m)
        (h (position_or_len p xs) (omega arith) ∙ turned _ (prefix_len_stops (λ x. not (p x)) xs d some))
        ∙ ap (λ b. if b then number (position_or_len p xs) else none) (sym (lt-ltb (position_or_len p xs) (length xs) some))
    by_order (inr past) =
        chosen_none number hit none 0 n (λ k l m. h k (omega arith) ∙ fails_before_first p xs k d (omega arith))
        ∙ ap (λ b. if b then number (position_or_len p xs) else none) (sym (le-ltb (position_or_len p xs) (length xs) past))

-- the number of elements stands for none
pub first_or_all : (n len : ℕ) → n ≤ len → (if nat_lt n len then n else len) ≡ n
first_or_all n len most = by_order (cases_lt n len)
  where
    by_order : (n < len) ⊎ (len ≤ n) → (if nat_lt n len then n else len) ≡ n
    by_order (inl some) = ap (λ b. if b then n else len) (lt-ltb n len some)
    by_order (inr past) = let same : len ≡ n = omega arith in ap (λ b. if b then n else len) (le-ltb n len past) ∙ same
