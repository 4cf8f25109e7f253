-- What the code computes on 64 bits is what the definitions say on w.
use Rattle.std.proofs.Common.{◌≡◌, ◌≢◌, ◌∙◌, Bool, true, false, nat_lt, if◌then◌else◌, neg_ℤ, ℕ, zero, suc, ◌-◌, ◌/◌, ◌%◌, ◌^◌, ◌<◌, ◌≤◌, ◌⊎◌, inl, inr, ℤ, pos, negsuc, refl, sym, ap, subst, arith, bit_and}
use Rattle.std.proofs.lemmas.Nat.{and_mask, mod_below, pow_pos}
use Rattle.std.proofs.lemmas.Int.{ints, to_z-of_z, of_z-to_z}
use Rattle.std.proofs.Math.Nat.{div-le_self}
use Rattle.std.specs.Int.{w64, cast_signed, cast_unsigned, int_wrapping_div}
use Rattle.std.specs.Int.RustNames.{int_div, int_rem}
use Rattle.std.specs.Int.Signed.{mag}
use Rattle.bits_core.specs.Bits.{mask_of, signed_of, bits_of, sext_of, quotient_of, remainder_of, div_s_of, mod_s_of}

-- the low bits under a mask
pub masked : (v m w : ℕ) → m ≡ mask_of w → bit_and v m ≡ v % 2 ^ w
masked v m w e = ap (bit_and v) e ∙ and_mask v w

pub masked_below : (v m w : ℕ) → m ≡ mask_of w → bit_and v m < 2 ^ w
masked_below v m w e = subst (λ (n : ℕ). n < 2 ^ w) (sym (masked v m w e)) (mod_below v (2 ^ w) (pow_pos w))

-- a signed number in 64 bits, cut to w bits
pub cut : (z : ℤ) (w : ℕ) → (w ≡ 32) ⊎ (w ≡ 64) → mag z < 2 ^ 64 → cast_unsigned w64 z % 2 ^ w ≡ bits_of w z
cut (pos n) w h f = refl
cut (negsuc n) w (inl e) f = subst (λ (k : ℕ). (2 ^ 64 - suc n) % 2 ^ k ≡ 2 ^ k - 1 - n % 2 ^ k) (sym e) (omega arith)
cut (negsuc n) w (inr e) f = subst (λ (k : ℕ). (2 ^ 64 - suc n) % 2 ^ k ≡ 2 ^ k - 1 - n % 2 ^ k) (sym e) (omega arith)

-- 64 bits hold the signed number of w
pub extended : (v w : ℕ) → (w ≡ 32) ⊎ (w ≡ 64) → v < 2 ^ w → cast_signed w64 (sext_of v w) ≡ signed_of w v
extended v w (inl e) f = subst (λ (k : ℕ). v < 2 ^ k → cast_signed w64 (sext_of v k) ≡ signed_of k v) (sym e) narrow f
  where
    narrow : v < 2 ^ 32 → cast_signed w64 (sext_of v 32) ≡ signed_of 32 v
    narrow f = grind (arith, ints)
extended v w (inr e) f = subst (λ (k : ℕ). v < 2 ^ k → cast_signed w64 (sext_of v k) ≡ signed_of k v) (sym e) wide f
  where
    wide : v < 2 ^ 64 → cast_signed w64 (sext_of v 64) ≡ signed_of 64 v
    wide f = grind (arith, ints)

-- a quotient is no further from 0 than the dividend, but for the sign
near : (n m k : ℕ) → n ≤ m → m < k → mag (neg_ℤ (pos n)) < k
near zero m k h l = omega arith
near (suc n) m k h l = omega arith

div_le : (a b : ℕ) → a / b ≤ a
div_le a b = div-le_self a b

quotient_fits : (x y : ℤ) → mag x < 2 ^ 63 → mag (int_div x y) < 2 ^ 64
quotient_fits (pos a) (pos b) h = omega (arith, div_le a b)
quotient_fits (pos a) (negsuc b) h = near (a / suc b) a (2 ^ 64) (div_le a (suc b)) (omega arith)
quotient_fits (negsuc a) (pos b) h = near (suc a / b) (suc a) (2 ^ 64) (div_le (suc a) b) (omega arith)
quotient_fits (negsuc a) (negsuc b) h = omega (arith, div_le (suc a) (suc b))

-- 64 bits are read back as they were written
bits_back : (z : ℤ) → mag z < 2 ^ 64 → cast_unsigned w64 (cast_signed w64 (cast_unsigned w64 z)) ≡ cast_unsigned w64 z
bits_back (pos n) h = of_z-to_z w64 n h
bits_back (negsuc n) h = of_z-to_z w64 (2 ^ 64 - suc n) (omega arith)

-- a word that is not 0 is no signed 0
quotient_is : (x : ℤ) (w b : ℕ) → b < 2 ^ w → b ≢ 0 → quotient_of x (signed_of w b) ≡ int_div x (signed_of w b)
quotient_is x w zero l n = absurd (n refl)
quotient_is x w (suc b) l n = by_test (nat_lt (suc b) (2 ^ (w - 1)))
  where
    by_test : (t : Bool) → quotient_of x (if t then pos (suc b) else negsuc (2 ^ w - 1 - suc b)) ≡ int_div x (if t then pos (suc b) else negsuc (2 ^ w - 1 - suc b))
    by_test true = refl
    by_test false = refl

remainder_is : (x : ℤ) (w b : ℕ) → b < 2 ^ w → b ≢ 0 → remainder_of x (signed_of w b) ≡ int_rem x (signed_of w b)
remainder_is x w zero l n = absurd (n refl)
remainder_is x w (suc b) l n = by_test (nat_lt (suc b) (2 ^ (w - 1)))
  where
    by_test : (t : Bool) → remainder_of x (if t then pos (suc b) else negsuc (2 ^ w - 1 - suc b)) ≡ int_rem x (if t then pos (suc b) else negsuc (2 ^ w - 1 - suc b))
    by_test true = refl
    by_test false = refl

-- a number of 64 bits as calls pass it
passed : (z : ℤ) → mag z < 2 ^ 63 → cast_signed w64 (cast_unsigned w64 z) ≡ z
passed z h = to_z-of_z w64 z (record { sfits = h })

-- what is left of a signed result under a mask
left : (z q : ℤ) (u m w : ℕ) → (w ≡ 32) ⊎ (w ≡ 64) → mag z < 2 ^ 64 → mag q < 2 ^ 63 → cast_unsigned w64 q ≡ cast_unsigned w64 z
    → u ≡ cast_unsigned w64 (cast_signed w64 (cast_unsigned w64 q)) → m ≡ mask_of w → bit_and u m ≡ bits_of w z
left z q u m w h f g e i j = masked u m w j ∙ ap (λ (n : ℕ). n % 2 ^ w) (i ∙ (ap (cast_unsigned w64) (passed q g) ∙ e)) ∙ cut z w h f

pub divided : (a b w u m : ℕ) (x y q : ℤ) → (w ≡ 32) ⊎ (w ≡ 64) → b < 2 ^ w → b ≢ 0 → mag x < 2 ^ 63 → mag y < 2 ^ 63 → mag q < 2 ^ 63
    → x ≡ signed_of w a → y ≡ signed_of w b → q ≡ int_wrapping_div w64 (cast_signed w64 (cast_unsigned w64 x)) (cast_signed w64 (cast_unsigned w64 y))
    → u ≡ cast_unsigned w64 (cast_signed w64 (cast_unsigned w64 q)) → m ≡ mask_of w → bit_and u m ≡ div_s_of a b w
divided a b w u m x y q h l n fx fy fq ex ey eq eu em =
    let e0 : q ≡ cast_signed w64 (cast_unsigned w64 (int_div x y)) = eq ∙ (ap (λ (z : ℤ). int_wrapping_div w64 z (cast_signed w64 (cast_unsigned w64 y))) (passed x fx) ∙ ap (int_wrapping_div w64 x) (passed y fy)) in
    let fits : mag (int_div x y) < 2 ^ 64 = quotient_fits x y fx in
    left (int_div x y) q u m w h fits fq (ap (cast_unsigned w64) e0 ∙ bits_back (int_div x y) fits) eu em
    ∙ ap (bits_of w) (ap (λ (z : ℤ). int_div z y) ex ∙ (ap (int_div (signed_of w a)) ey ∙ sym (quotient_is (signed_of w a) w b l n)))

pub reduced : (a b w u m : ℕ) (x y q : ℤ) → (w ≡ 32) ⊎ (w ≡ 64) → b < 2 ^ w → b ≢ 0 → mag x < 2 ^ 63 → mag y < 2 ^ 63 → mag q < 2 ^ 63
    → x ≡ signed_of w a → y ≡ signed_of w b → q ≡ int_rem (cast_signed w64 (cast_unsigned w64 x)) (cast_signed w64 (cast_unsigned w64 y))
    → u ≡ cast_unsigned w64 (cast_signed w64 (cast_unsigned w64 q)) → m ≡ mask_of w → bit_and u m ≡ mod_s_of a b w
reduced a b w u m x y q h l n fx fy fq ex ey eq eu em =
    let e0 : q ≡ int_rem x y = eq ∙ (ap (λ (z : ℤ). int_rem z (cast_signed w64 (cast_unsigned w64 y))) (passed x fx) ∙ ap (int_rem x) (passed y fy)) in
    left q q u m w h (omega arith) fq refl eu em
    ∙ ap (bits_of w) (e0 ∙ (ap (λ (z : ℤ). int_rem z y) ex ∙ (ap (int_rem (signed_of w a)) ey ∙ sym (remainder_is (signed_of w a) w b l n))))
