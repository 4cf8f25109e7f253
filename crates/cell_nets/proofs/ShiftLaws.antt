-- Shifts and signs on as many bits as their cells have.
use Rattle.std.specs.Prelude.{◌==◌, nat_lt, if◌then◌else◌}
use Rattle.std.proofs.Common.{◌≡◌, ℕ, ◌+◌, ◌-◌, ◌*◌, ◌/◌, ◌%◌, ◌^◌, ◌<◌, ◌≤◌, Bool, true, false, List, [], ◌∷◌, refl, sym, ◌∙◌, ap, subst, arith}
use Rattle.std.proofs.lemmas.Bool.{lt-ltb, ltb-true, eqb-true}
use Rattle.std.proofs.lemmas.Bool.Decides.{nat_tests}
use Rattle.std.proofs.lemmas.Nat.{mul-mod_first, mod_below, pow_pos, pow-add, mod-pow-add}
use Rattle.std.proofs.Math.Nat.{mod-eq_of_lt, div-eq_of_lt, mul-mod_left, div-le_self, add-mul-mod_self_right}
use Rattle.std.proofs.Math.Pow.{pow_mono, mod-mod-pow}
use Rattle.net_core.specs.Nets.{Tree, TConst, TConditional, TConcatenation, TMore, TLast}
use Rattle.net_core.specs.Value.{word}
use Rattle.net_core.proofs.LowBitsLaws.{low_low}
use Rattle.cell_core.specs.xdp_machine.State.{PacketIn}
use Rattle.cell_core.specs.bits_core.Bits.{sext_of}
use Rattle.cell_core.specs.declared.operator.Operator.TheVariants.{ShiftLeft, ShiftRight, SignExtend}
use Rattle.cell_core.specs.Cells.{number, bits_from}
use Rattle.cell_nets.specs.declared.operand.Operand.{Operand}
use Rattle.cell_nets.specs.Operands.{number_in}
use Rattle.cell_nets.specs.Parts.{IsPart, IsSlice, Computes, worth}
use Rattle.cell_nets.proofs.ExpressionPartLaws.{part_same, part_of, part_computes, const_slice, conditional_part, beside_slice}
use Rattle.cell_nets.proofs.NarrowLaws.{from_zero}

-- the six bits of a count
pub count_is : (y : ℕ) → bits_from y 0 6 ≡ y % 2 ^ 64 % 64
count_is y = from_zero y 6 ∙ omega arith

at_once : (x n w : ℕ) → w ≤ 64 → x % 2 ^ w * 2 ^ n % 2 ^ w ≡ x % 2 ^ 64 * 2 ^ n % 2 ^ 64 % 2 ^ w
at_once x n w most = ap (λ k. k * 2 ^ n % 2 ^ w) (sym (low_low x w most)) ∙ mul-mod_first (x % 2 ^ 64) (2 ^ n) (2 ^ w) ∙ sym (low_low (x % 2 ^ 64 * 2 ^ n) w most)

pub all_out : (x n w : ℕ) → w ≤ n → x * 2 ^ n % 2 ^ w ≡ 0
all_out x n w past =
    let e : n - w + w ≡ n = omega arith in
    ap (λ k. x * k % 2 ^ w) (ap (λ k. 2 ^ k) (sym e) ∙ pow-add 2 (n - w) w) ∙ ap (λ k. k % 2 ^ w) (regroup x (2 ^ (n - w)) (2 ^ w)) ∙ mul-mod_left (x * 2 ^ (n - w)) (2 ^ w)
  where
    regroup : (a b c : ℕ) → a * (b * c) ≡ a * b * c
    regroup a b c = omega arith

shifted : (b : Bool) (p q r : ℕ) → (b ≡ true → p ≡ r) → (b ≡ false → q ≡ r) → (if b then p else q) ≡ r
shifted true p q r on off = on refl
shifted false p q r on off = off refl

not_less : (a b : ℕ) → nat_lt a b ≡ false → b ≤ a
not_less a b e = grind (arith, nat_tests)

pub left_is : (packet : PacketIn) (w x y : ℕ) → w ≤ 64
    → (if nat_lt (bits_from y 0 6) w then bits_from x 0 w * 2 ^ bits_from y 0 6 % 2 ^ w else 0) ≡ bits_from (number packet ShiftLeft (x ∷ y ∷ [])) 0 w
left_is packet w x y most =
    let n = y % 2 ^ 64 % 64 in
    let P = λ (k : ℕ) (l : ℕ). if nat_lt k w then l * 2 ^ k % 2 ^ w else 0 in
    ap (λ k. P k (bits_from x 0 w)) (count_is y) ∙ ap (P n) (from_zero x w)
    ∙ shifted (nat_lt n w) _ _ _ (λ t. at_once x n w most) (λ f. sym (low_low (x % 2 ^ 64 * 2 ^ n) w most ∙ all_out (x % 2 ^ 64) n w (not_less n w f)))
    ∙ sym (from_zero (x % 2 ^ 64 * 2 ^ n % 2 ^ 64) w)

pub right_is : (packet : PacketIn) (w x y : ℕ) → w ≤ 64 → x < 2 ^ w
    → (if nat_lt (bits_from y 0 6) w then bits_from x 0 w / 2 ^ bits_from y 0 6 else 0) ≡ bits_from (number packet ShiftRight (x ∷ y ∷ [])) 0 w
right_is packet w x y most small =
    let n = y % 2 ^ 64 % 64 in
    let P = λ (k : ℕ) (l : ℕ). if nat_lt k w then l / 2 ^ k else 0 in
    let less : x < 2 ^ 64 = omega (arith, pow_mono {i = w} {j = 64} most) in
    let part : x / 2 ^ n < 2 ^ w = omega (arith, div-le_self x (2 ^ n)) in
    ap (λ k. P k (bits_from x 0 w)) (count_is y) ∙ ap (P n) (from_zero x w ∙ mod-eq_of_lt {n = x} {m = 2 ^ w} small)
    ∙ shifted (nat_lt n w) _ _ (x / 2 ^ n) (λ t. refl) (λ f. sym (div-eq_of_lt {n = x} {m = 2 ^ n} (omega (arith, pow_mono {i = w} {j = n} (not_less n w f)))))
    ∙ sym (from_zero (x % 2 ^ 64 / 2 ^ n) w ∙ ap (λ k. k / 2 ^ n % 2 ^ w) (mod-eq_of_lt {n = x} {m = 2 ^ 64} less) ∙ mod-eq_of_lt {n = x / 2 ^ n} {m = 2 ^ w} part)

-- ---- signs
-- what is extended, by its highest bit
low_sign : (b x : ℕ) → 0 < b → b ≤ 64 → x % 2 ^ b < 2 ^ (b - 1) → sext_of (x % 2 ^ b) b ≡ x % 2 ^ b
low_sign b x some most low =
    let less : x % 2 ^ b < 2 ^ 64 = omega (arith, pow_mono {i = b} {j = 64} most, mod_below x (2 ^ b) (pow_pos b)) in
    rw (lt-ltb (x % 2 ^ b) (2 ^ (b - 1)) low) (mod-eq_of_lt {n = x % 2 ^ b} {m = 2 ^ 64} less)

high_sign : (b x : ℕ) → 0 < b → b ≤ 64 → 2 ^ (b - 1) ≤ x % 2 ^ b → sext_of (x % 2 ^ b) b ≡ 2 ^ 64 - 2 ^ b + x % 2 ^ b
high_sign b x some most high =
    let below : x % 2 ^ b < 2 ^ b = mod_below x (2 ^ b) (pow_pos b) in
    let wide : 2 ^ b ≤ 2 ^ 64 = pow_mono {i = b} {j = 64} most in
    let less : 2 ^ b - 1 - x % 2 ^ b < 2 ^ 64 = omega arith in
    rw (le_no_less (x % 2 ^ b) (2 ^ (b - 1)) high) (ap (λ k. 2 ^ 64 - 1 - k) (mod-eq_of_lt {n = 2 ^ b - 1 - x % 2 ^ b} {m = 2 ^ 64} less) ∙ omega arith)
  where
    le_no_less : (a b : ℕ) → b ≤ a → nat_lt a b ≡ false
    le_no_less a b h = grind (arith, nat_tests)

pub low_less : (x b w : ℕ) → w ≤ b → x % 2 ^ b % 2 ^ w ≡ x % 2 ^ w
low_less x b w less = let e : b - w + w ≡ b = omega arith in ap (λ k. x % 2 ^ k % 2 ^ w) (sym e) ∙ mod-mod-pow x (b - w) w

multiple : (a w : ℕ) → w ≤ a → 2 ^ a ≡ 2 ^ (a - w) * 2 ^ w
multiple a w less = let e : a - w + w ≡ a = omega arith in ap (λ k. 2 ^ k) (sym e) ∙ pow-add 2 (a - w) w

spaced : (k l m : ℕ) → l ≤ k → k * m - l * m ≡ (k - l) * m
spaced k l m le = let e : k - l + l ≡ k = omega arith in let f : (k - l) * m + l * m ≡ k * m = omega arith ∙ ap (λ n. n * m) e in omega (arith, f)

high_cut : (b w y : ℕ) → w ≤ b → b ≤ 64 → (2 ^ 64 - 2 ^ b + y) % 2 ^ w ≡ y % 2 ^ w
high_cut b w y less most =
    let e : 2 ^ 64 - 2 ^ b ≡ (2 ^ (64 - w) - 2 ^ (b - w)) * 2 ^ w = ap (λ n. n - 2 ^ b) (multiple 64 w (omega arith)) ∙ ap (λ n. 2 ^ (64 - w) * 2 ^ w - n) (multiple b w less) ∙ spaced (2 ^ (64 - w)) (2 ^ (b - w)) (2 ^ w) (pow_mono {i = b - w} {j = 64 - w} (omega arith)) in
    let d : 2 ^ 64 - 2 ^ b + y ≡ y + (2 ^ (64 - w) - 2 ^ (b - w)) * 2 ^ w = omega (arith, e) in
    ap (λ n. n % 2 ^ w) d ∙ add-mul-mod_self_right y (2 ^ (64 - w) - 2 ^ (b - w)) (2 ^ w)

-- its bits where the cell has no more than it
pub cut_sign : (packet : PacketIn) (b w x : ℕ) → 0 < b → b ≤ 64 → w ≤ b → bits_from x 0 w ≡ bits_from (number packet (SignExtend b) (x ∷ [])) 0 w
cut_sign packet b w x some most less = from_zero x w ∙ sym (from_zero (sext_of (x % 2 ^ b) b) w ∙ by_test (nat_lt (x % 2 ^ b) (2 ^ (b - 1))) refl)
  where
    by_test : (t : Bool) → nat_lt (x % 2 ^ b) (2 ^ (b - 1)) ≡ t → sext_of (x % 2 ^ b) b % 2 ^ w ≡ x % 2 ^ w
    by_test true e = ap (λ k. k % 2 ^ w) (low_sign b x some most (ltb-true _ _ e)) ∙ low_less x b w less
    by_test false e = ap (λ k. k % 2 ^ w) (high_sign b x some most (not_less _ _ e)) ∙ high_cut b w (x % 2 ^ b) less most ∙ low_less x b w less

one_of : (n : ℕ) → n < 2 ^ 1 → (n == 0) ≡ false → n ≡ 1
one_of n h e = grind (arith, nat_tests)

-- the highest bit of some
top_bit : (b x : ℕ) → 0 < b → x % 2 ^ b ≡ bits_from x (b - 1) 1 * 2 ^ (b - 1) + x % 2 ^ (b - 1)
top_bit b x some = let e : 1 + (b - 1) ≡ b = omega arith in ap (λ k. x % 2 ^ k) (sym e) ∙ mod-pow-add x 1 (b - 1)

high_more : (b w y : ℕ) → b < w → w ≤ 64 → y < 2 ^ b → (2 ^ (w - b) - 1) * 2 ^ b + y ≡ (2 ^ 64 - 2 ^ b + y) % 2 ^ w
high_more b w y less most below =
    let wide : 2 ^ b ≤ 2 ^ w = pow_mono {i = b} {j = w} (omega arith) in
    let one : (2 ^ (w - b) - 1) * 2 ^ b ≡ 2 ^ w - 2 ^ b = sym (ap (λ n. n - 2 ^ b) (multiple w b (omega arith)) ∙ ap (λ n. 2 ^ (w - b) * 2 ^ b - n) (omega arith) ∙ spaced (2 ^ (w - b)) 1 (2 ^ b) (pow_pos (w - b))) in
    let many : 2 ^ 64 - 2 ^ w ≡ (2 ^ (64 - w) - 1) * 2 ^ w = ap (λ n. n - 2 ^ w) (multiple 64 w most) ∙ ap (λ n. 2 ^ (64 - w) * 2 ^ w - n) (omega arith) ∙ spaced (2 ^ (64 - w)) 1 (2 ^ w) (pow_pos (64 - w)) in
    let all : 2 ^ w ≤ 2 ^ 64 = pow_mono {i = w} {j = 64} most in
    let d : 2 ^ 64 - 2 ^ b + y ≡ 2 ^ w - 2 ^ b + y + (2 ^ (64 - w) - 1) * 2 ^ w = omega (arith, many) in
    let small : 2 ^ w - 2 ^ b + y < 2 ^ w = omega arith in
    ap (λ n. n + y) one ∙ sym (ap (λ n. n % 2 ^ w) d ∙ add-mul-mod_self_right (2 ^ w - 2 ^ b + y) (2 ^ (64 - w) - 1) (2 ^ w) ∙ mod-eq_of_lt {n = 2 ^ w - 2 ^ b + y} {m = 2 ^ w} small)

-- the whole of it, and more signs
pub more_signs : (packet : PacketIn) (b w x : ℕ) → 0 < b → b < w → w ≤ 64
    → (if bits_from x (b - 1) 1 == 0 then 0 else 2 ^ (w - b) - 1) * 2 ^ b + bits_from x 0 b ≡ bits_from (number packet (SignExtend b) (x ∷ [])) 0 w
more_signs packet b w x some less most =
    by_test (bits_from x (b - 1) 1 == 0) refl ∙ sym (from_zero (sext_of (x % 2 ^ b) b) w)
  where
    one : bits_from x (b - 1) 1 < 2 ^ 1
    one = mod_below (x / 2 ^ (b - 1)) (2 ^ 1) (pow_pos 1)

    below : x % 2 ^ b < 2 ^ b
    below = mod_below x (2 ^ b) (pow_pos b)

    rest : x % 2 ^ (b - 1) < 2 ^ (b - 1)
    rest = mod_below x (2 ^ (b - 1)) (pow_pos (b - 1))

    by_test : (t : Bool) → (bits_from x (b - 1) 1 == 0) ≡ t → (if t then 0 else 2 ^ (w - b) - 1) * 2 ^ b + bits_from x 0 b ≡ sext_of (x % 2 ^ b) b % 2 ^ w
    by_test true e =
        let s : bits_from x (b - 1) 1 ≡ 0 = eqb-true (bits_from x (b - 1) 1) 0 e in
        let low : x % 2 ^ b < 2 ^ (b - 1) = omega (arith, top_bit b x some ∙ ap (λ k. k * 2 ^ (b - 1) + x % 2 ^ (b - 1)) s, rest) in
        let small : x % 2 ^ b < 2 ^ w = omega (arith, below, pow_mono {i = b} {j = w} (omega arith)) in
        omega (arith, from_zero x b) ∙ sym (ap (λ k. k % 2 ^ w) (low_sign b x some (omega arith) low) ∙ mod-eq_of_lt {n = x % 2 ^ b} {m = 2 ^ w} small)
    by_test false e =
        let s : bits_from x (b - 1) 1 ≡ 1 = one_of (bits_from x (b - 1) 1) one e in
        let high : 2 ^ (b - 1) ≤ x % 2 ^ b = omega (arith, top_bit b x some ∙ ap (λ k. k * 2 ^ (b - 1) + x % 2 ^ (b - 1)) s) in
        ap (λ k. (2 ^ (w - b) - 1) * 2 ^ b + k) (from_zero x b) ∙ high_more b w (x % 2 ^ b) less most below ∙ sym (ap (λ k. k % 2 ^ w) (high_sign b x some (omega arith) high))

pub one_shifted : (k : ℕ) → k ≤ 63 → 1 * 2 ^ k % 2 ^ 64 - 1 ≡ 2 ^ k - 1
one_shifted k le = let less : 1 * 2 ^ k < 2 ^ 64 = omega (arith, pow_mono {i = k} {j = 63} le) in ap (λ n. n - 1) (mod-eq_of_lt {n = 1 * 2 ^ k} {m = 2 ^ 64} less) ∙ omega arith

-- signs above the bits that are extended
pub signs_computes :
    {N : Type 0} (ins : List (Operand N)) (packet : PacketIn) (a : Operand N) (b w n : ℕ) (sign ones zeros high low whole : Tree N) → 0 < b → b < w → w ≤ 64
    → ones ≡ TConst (word (w - b) n) → n ≡ 2 ^ (w - b) - 1 → zeros ≡ TConst (word (w - b) 0) → high ≡ TConditional sign ones zeros → whole ≡ TConcatenation (TMore high (TLast low))
    → IsSlice ins 2 1 (λ v. bits_from (number_in v a) (b - 1) 1) sign → IsSlice ins 2 b (λ v. bits_from (number_in v a) 0 b) low → Computes ins w (worth packet (SignExtend b) (a ∷ []) w) whole
signs_computes ins packet a b w n sign ones zeros high low whole some less most one is zero h e s l =
    let k = w - b in
    let full : 2 ^ k - 1 < 2 ^ k = omega (arith, pow_pos k) in
    let p = part_of ins 1 1 k _ _ ones (omega arith) (one ∙ ap (λ m. TConst (word k m)) is) (const_slice ins k (2 ^ k - 1) (omega arith) full).part in
    let q = part_of ins 1 1 k _ _ zeros (omega arith) zero (const_slice ins k 0 (omega arith) (pow_pos k)).part in
    let c = part_of ins 3 3 k _ _ high (omega arith) h (conditional_part ins 2 1 1 k _ _ _ _ _ _ s.part p q) in
    let t = beside_slice ins 3 2 k b _ _ high low (omega arith) some (omega arith) c l.part in
    let sum : k + b ≡ w = omega arith in
    let P : ℕ → Type 0 = λ m. IsPart ins 4 m (worth packet (SignExtend b) (a ∷ []) w) whole in
    part_computes ins 4 w _ whole (omega arith)
    (subst P sum (part_of ins 4 4 (k + b) _ _ whole (omega arith) e (part_same ins 4 (k + b) _ _ _ (λ v f. more_signs packet b w (number_in v a) some less most) t.part)))

-- low bits of low bits
pub cut_low : (n m w : ℕ) → w ≤ m → bits_from (bits_from n 0 m) 0 w ≡ bits_from n 0 w
cut_low n m w less = from_zero (bits_from n 0 m) w ∙ ap (λ k. k % 2 ^ w) (from_zero n m) ∙ low_less n m w less ∙ sym (from_zero n w)
