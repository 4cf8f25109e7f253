-- Keys word by word.
use Rattle.std.specs.Int.{byte_at, bytes_low_first}
use Rattle.std.specs.Prelude.{min}
use Rattle.std.specs.Str.{bytes_eq}
use Rattle.std.proofs.Common.{◌≡◌, ◌∙◌, ℕ, zero, suc, ◌+◌, ◌-◌, ◌*◌, ◌/◌, ◌%◌, ◌^◌, ◌==◌, ◌<◌, ◌≤◌, Bool, true, false, ◌&&◌, List, [], ◌∷◌, ◌++◌, length, drop, get_or, refl, sym, ap, arith, ◌⊎◌, inl, inr, map as map_list}
use Rattle.std.proofs.Math.Arith.{mod-mul}
use Rattle.std.proofs.Math.Seq.{drop-cons}
use Rattle.std.proofs.Math.Nat.{div-div-eq-div-mul, pow-suc}
use Rattle.std.proofs.lemmas.Bool.{cases_lt, eqb-true, eqb-false, eq-eqb}
use Rattle.std.proofs.lemmas.List.{take-append-le}
use Rattle.std.proofs.lemmas.Nat.{pow_pos}
use Rattle.byteorder.specs.Endian.{little_bytes}
use Rattle.byteorder.specs.Numbers.{length-bytes_low_first}
use Rattle.byteorder.proofs.Bytes.{take-bytes_low_first, pow256}
use Rattle.block_core.proofs.list_laws_laws.ListLaws.{take_past}
use Rattle.hazard_core.specs.cell_core.Cells.{bits_from}
use Rattle.hazard_core.specs.cell_core.Sites.{spelled, bytes_of}
use Rattle.block_core.specs.net_core.Value.{Env}
use Rattle.block_core.proofs.list_laws_laws.DigitLaws.{byte_is, byte_small}
use Rattle.cell_nets.specs.declared.operand.Operand.{Operand}
use Rattle.cell_nets.specs.Operands.{number_in}

and_assoc : (k l m : Bool) → ((k && l) && m) ≡ (k && (l && m))
and_assoc true l m = refl
and_assoc false l m = refl

and_true : (b : Bool) → (b && true) ≡ b
and_true true = refl
and_true false = refl

-- bytes in front, and the others
same_front : (a b r s : List ℕ) → length a ≡ length b → bytes_eq (a ++ r) (b ++ s) ≡ (bytes_eq a b && bytes_eq r s)
same_front [] [] r s e = refl
same_front [] (y ∷ b) r s e = absurd (omega arith)
same_front (x ∷ a) [] r s e = absurd (omega arith)
same_front (x ∷ a) (y ∷ b) r s e = ap (λ t. (x == y) && t) (same_front a b r s (omega arith)) ∙ sym (and_assoc (x == y) (bytes_eq a b) (bytes_eq r s))

-- the low digit of a number, and the others
same_digits : (a b c d : ℕ) → a < 256 → c < 256 → ((a == c) && (b == d)) ≡ (b * 256 + a == d * 256 + c)
same_digits a b c d h k = by_low (a == c) refl
  where
    differs : (x y : ℕ) → (x ≡ y → ⊥) → (x == y) ≡ false
    differs x y n = by (x == y) refl
      where
        by : (r : Bool) → (x == y) ≡ r → r ≡ false
        by true e = absurd (n (eqb-true x y e))
        by false e = refl

    by_high : (r : Bool) → (b == d) ≡ r → a ≡ c → r ≡ (b * 256 + a == d * 256 + c)
    by_high true e same = let other : b ≡ d = eqb-true b d e in sym (eq-eqb (b * 256 + a) (d * 256 + c) (omega arith))
    by_high false e same = sym (differs (b * 256 + a) (d * 256 + c) (λ f. eqb-false b d e (omega arith)))

    by_low : (r : Bool) → (a == c) ≡ r → (r && (b == d)) ≡ (b * 256 + a == d * 256 + c)
    by_low true e = by_high (b == d) refl (eqb-true a c e)
    by_low false e = sym (differs (b * 256 + a) (d * 256 + c) (λ f. eqb-false a c e (omega arith)))

some_power : (m : ℕ) → 0 < 256 ^ m
some_power m = omega (arith, pow_pos (8 * m), pow256 m)

digits : (m j x : ℕ) → x / 256 ^ j % 256 ^ suc m ≡ (x / 256 ^ suc j % 256 ^ m) * 256 + byte_at j x
digits m j x =
    let shift : x / 256 ^ suc j ≡ x / 256 ^ j / 256 = ap (λ k. x / k) (pow-suc 256 j) ∙ sym (div-div-eq-div-mul x (256 ^ j) 256) in
    ap (λ k. x / 256 ^ j % k) (pow-suc 256 m)
    ∙ mod-mul (x / 256 ^ j) {m = 256 ^ m} {c = 256} (some_power m) (omega arith)
    ∙ ap (λ k. k % 256 ^ m * 256 + x / 256 ^ j % 256) (sym shift)
    ∙ ap (λ k. x / 256 ^ suc j % 256 ^ m * 256 + k) (sym (byte_is j x))

-- so many low bytes are the same where the number in them is
low_bytes : (m j x y : ℕ) → bytes_eq (bytes_low_first j m x) (bytes_low_first j m y) ≡ (x / 256 ^ j % 256 ^ m == y / 256 ^ j % 256 ^ m)
low_bytes zero j x y = sym (eq-eqb (x / 256 ^ j % 256 ^ 0) (y / 256 ^ j % 256 ^ 0) (omega arith))
low_bytes (suc m) j x y =
    ap (λ t. (byte_at j x == byte_at j y) && t) (low_bytes m (suc j) x y)
    ∙ same_digits (byte_at j x) (x / 256 ^ suc j % 256 ^ m) (byte_at j y) (y / 256 ^ suc j % 256 ^ m) (byte_small j x) (byte_small j y)
    ∙ ap (λ k. k == y / 256 ^ suc j % 256 ^ m * 256 + byte_at j y) (sym (digits m j x))
    ∙ ap (λ k. x / 256 ^ j % 256 ^ suc m == k) (sym (digits m j y))

same_low : (m x y : ℕ) → bytes_eq (bytes_low_first 0 m x) (bytes_low_first 0 m y) ≡ (bits_from x 0 (8 * m) == bits_from y 0 (8 * m))
same_low m x y = low_bytes m 0 x y ∙ ap (λ k. x / 256 ^ 0 % k == y / 256 ^ 0 % k) (pow256 m)

pub front_bytes : (n x : ℕ) (xs : List ℕ) → n ≤ 8 → bytes_of n (x ∷ xs) ≡ bytes_low_first 0 n x
front_bytes n x xs h = take-append-le n (little_bytes 8 x) (spelled xs) (omega (arith, length-bytes_low_first 0 8 x)) ∙ take-bytes_low_first 0 8 n x h

behind : (n x : ℕ) (xs : List ℕ) → bytes_of (8 + n) (x ∷ xs) ≡ little_bytes 8 x ++ bytes_of n xs
behind n x xs = take_past (little_bytes 8 x) (spelled xs) n

-- the first word, and the others
pub word_same : (n w x y : ℕ) (xs ys : List ℕ) → w ≡ 8 * min n 8 → bytes_eq (bytes_of n (x ∷ xs)) (bytes_of n (y ∷ ys)) ≡ (bits_from x 0 w == bits_from y 0 w && bytes_eq (bytes_of (n - 8) xs) (bytes_of (n - 8) ys))
word_same n w x y xs ys e = by_case (cases_lt n 8)
  where
    W : ℕ → Bool
    W k = bits_from x 0 k == bits_from y 0 k

    by_case : (n < 8) ⊎ (8 ≤ n) → bytes_eq (bytes_of n (x ∷ xs)) (bytes_of n (y ∷ ys)) ≡ (W w && bytes_eq (bytes_of (n - 8) xs) (bytes_of (n - 8) ys))
    by_case (inl l) =
        let none : n - 8 ≡ 0 = omega arith in
        let wide : 8 * n ≡ w = omega (arith, e) in
        ap (λ l. bytes_eq l (bytes_of n (y ∷ ys))) (front_bytes n x xs (omega arith))
        ∙ ap (λ l. bytes_eq (bytes_low_first 0 n x) l) (front_bytes n y ys (omega arith))
        ∙ same_low n x y
        ∙ sym (and_true (W (8 * n)))
        ∙ ap (λ k. W k && true) wide
        ∙ ap (λ k. W w && bytes_eq (bytes_of k xs) (bytes_of k ys)) (sym none)
    by_case (inr l) =
        let more : n ≡ 8 + (n - 8) = omega arith in
        let wide : 64 ≡ w = omega (arith, e) in
        ap (λ k. bytes_eq (bytes_of k (x ∷ xs)) (bytes_of k (y ∷ ys))) more
        ∙ ap (λ l. bytes_eq l (bytes_of (8 + (n - 8)) (y ∷ ys))) (behind (n - 8) x xs)
        ∙ ap (λ l. bytes_eq (little_bytes 8 x ++ bytes_of (n - 8) xs) l) (behind (n - 8) y ys)
        ∙ same_front (little_bytes 8 x) (little_bytes 8 y) (bytes_of (n - 8) xs) (bytes_of (n - 8) ys) refl
        ∙ ap (λ b. b && bytes_eq (bytes_of (n - 8) xs) (bytes_of (n - 8) ys)) (same_low 8 x y)
        ∙ ap (λ k. W k && bytes_eq (bytes_of (n - 8) xs) (bytes_of (n - 8) ys)) wide

and_turned : (k l : Bool) → (k && l) ≡ (l && k)
and_turned true true = refl
and_turned true false = refl
and_turned false true = refl
and_turned false false = refl

-- of the words of two keys one more
pub key_step :
    {N : Type 0} (v : Env N) (a b : List (Operand N)) (x y : Operand N) (bytes k at w : ℕ) → suc k ≡ at → k < length a → k < length b → x ≡ get_or a k x → y ≡ get_or b k y → w ≡ 8 * min (bytes - 8 * k) 8
    → (bytes_eq (bytes_of (bytes - 8 * at) (map_list (number_in v) (drop at a))) (bytes_of (bytes - 8 * at) (map_list (number_in v) (drop at b))) && (bits_from (number_in v x) 0 w == bits_from (number_in v y) 0 w))
    ≡ bytes_eq (bytes_of (bytes - 8 * k) (map_list (number_in v) (drop k a))) (bytes_of (bytes - 8 * k) (map_list (number_in v) (drop k b)))
key_step {N} v a b x y bytes k at w next la lb ex ey ew =
    ap (λ m. R m at && W) (omega arith)
    ∙ ap (λ m. R (bytes - 8 * k - 8) m && W) (sym next)
    ∙ and_turned (R (bytes - 8 * k - 8) (suc k)) W
    ∙ sym (word_same (bytes - 8 * k) w (number_in v x) (number_in v y) (map_list (number_in v) (drop (suc k) a)) (map_list (number_in v) (drop (suc k) b)) ew)
    ∙ ap (λ l. bytes_eq (bytes_of (bytes - 8 * k) (map_list (number_in v) l)) (bytes_of (bytes - 8 * k) (map_list (number_in v) (y ∷ drop (suc k) b)))) (sym (split a x la ex))
    ∙ ap (λ l. bytes_eq (bytes_of (bytes - 8 * k) (map_list (number_in v) (drop k a))) (bytes_of (bytes - 8 * k) (map_list (number_in v) l))) (sym (split b y lb ey))
  where
    R : ℕ → ℕ → Bool
    R m n = bytes_eq (bytes_of m (map_list (number_in v) (drop n a))) (bytes_of m (map_list (number_in v) (drop n b)))

    W : Bool
    W = bits_from (number_in v x) 0 w == bits_from (number_in v y) 0 w

    split : (l : List (Operand N)) (z : Operand N) → k < length l → z ≡ get_or l k z → drop k l ≡ z ∷ drop (suc k) l
    split l z lt e = drop-cons l k z lt ∙ ap (λ o. o ∷ drop (suc k) l) (sym e)
