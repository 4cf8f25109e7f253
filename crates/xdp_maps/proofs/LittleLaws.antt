-- Numbers that stand in bytes, the lowest first.
use Rattle.std.specs.Prelude.{◌≡◌, ℕ, zero, suc, ◌+◌, ◌*◌, ◌/◌, ◌%◌, ◌^◌, ◌<◌, ◌≤◌, List, length, slice_index}
use Rattle.std.proofs.Common.{refl, ap, ◌∙◌, arith, div-one}
use Rattle.std.proofs.lemmas.List.{get_or_past}
use Rattle.byteorder.specs.Endian.{little_from}
use Rattle.byteorder.proofs.Bytes.{pow256}

-- past the end stand zeros
pub beyond : (n i m : ℕ) (xs : List ℕ) → m ≤ n → length xs ≤ i + m → little_from i n xs ≡ little_from i m xs
beyond zero i zero xs l h = refl
beyond zero i (suc m) xs l h = absurd (omega arith)
beyond (suc n) i zero xs l h =
    let past : slice_index xs i ≡ 0 = get_or_past xs i 0 (omega arith) in
    ap (λ x. x + 256 * little_from (suc i) n xs) past ∙ ap (λ x. 0 + 256 * x) (beyond n (suc i) zero xs (omega arith) (omega arith))
beyond (suc n) i (suc m) xs l h = ap (λ x. slice_index xs i + 256 * x) (beyond n (suc i) m xs (omega arith) (omega arith))

pub same_bytes : (n i : ℕ) (xs ys : List ℕ) → ((k : ℕ) → i ≤ k → k < i + n → slice_index xs k ≡ slice_index ys k) → little_from i n xs ≡ little_from i n ys
same_bytes zero i xs ys h = refl
same_bytes (suc n) i xs ys h =
    ap (λ x. x + 256 * little_from (suc i) n xs) (h i (omega arith) (omega arith)) ∙ ap (λ x. slice_index ys i + 256 * x) (same_bytes n (suc i) xs ys (λ k l m. h k (omega arith) (omega arith)))

-- zeros make no number
pub no_bytes : (n i : ℕ) (xs : List ℕ) → ((k : ℕ) → slice_index xs k ≡ 0) → little_from i n xs ≡ 0
no_bytes zero i xs h = refl
no_bytes (suc n) i xs h = ap (λ x. x + 256 * little_from (suc i) n xs) (h i) ∙ ap (λ x. 0 + 256 * x) (no_bytes n (suc i) xs h)

-- the bytes of a number from the first on
pub low_is : (n k : ℕ) → n / 256 ^ 0 % 256 ^ k ≡ n % 2 ^ (8 * k)
low_is n k = ap (λ y. y % 256 ^ k) (div-one n) ∙ ap (λ y. n % y) (pow256 k)
