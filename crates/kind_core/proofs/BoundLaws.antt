-- Bounds hold of the numbers that are computed.
use Rattle.std.proofs.Common.{◌≡◌, ℕ, zero, suc, ◌+◌, ◌-◌, ◌*◌, ◌/◌, ◌%◌, ◌^◌, ◌<◌, ◌≤◌, ◌&&◌, ◌⊎◌, inl, inr, ℤ, pos, Bool, true, false, cond, refl, sym, ap, ◌∙◌, subst, arith, nat_lt, List}
use Rattle.std.specs.Prelude.{unsigned_abs, bit_and, slice_range}
use Rattle.std.proofs.Math.Nat.{mod-le, mod-mod, mod-eq_of_lt, mul-le-mul_right, pow-suc}
use Rattle.std.proofs.Math.Pow.{shr_mono, pow-lt}
use Rattle.std.proofs.lemmas.Bool.{and_parts}
use Rattle.std.proofs.lemmas.Bool.Decides.{nat_tests}
use Rattle.std.proofs.lemmas.Nat.{mod_below, pow_pos, and_le_l, and_le_r, and_comm}
use Rattle.byteorder.specs.Endian.{little_from}
use Rattle.byteorder.specs.Numbers.{little_from-lt}
use Rattle.xdp_machine.specs.bits_core.Bits.{reversed_of}
use Rattle.xdp_machine.specs.bpf_isa.declared.operation.Src.{Src}
use Rattle.xdp_machine.specs.bpf_isa.declared.operation.Src.TheVariants.{K, X}
use Rattle.xdp_machine.specs.bpf_isa.declared.operation.Size.{Size}
use Rattle.xdp_machine.specs.bpf_isa.declared.operation.Size.TheVariants.{B, H, W, Dw}
use Rattle.xdp_machine.specs.bpf_isa.declared.operation.Width.{Width}
use Rattle.xdp_machine.specs.bpf_isa.declared.operation.Width.TheVariants.{Bits32, Bits64}
use Rattle.xdp_machine.specs.bpf_isa.declared.operation.AluCode.{AluCode}
use Rattle.xdp_machine.specs.bpf_isa.declared.operation.AluCode.TheVariants.{Add, Mul, And, Lsh, Rsh}
use Rattle.xdp_machine.specs.Arithmetic.{bits_in, low, arithmetic, negated, extended, ordered}
use Rattle.xdp_machine.specs.Memory.{bytes_in, number_at}
use Rattle.xdp_machine.proofs.PartLaws.{AreBytes, at_or, bytes_in_slice}
use Rattle.xdp_machine.proofs.NumberLaws.{arithmetic_below}
use Rattle.kind_core.specs.declared.number.Number.{Number}
use Rattle.kind_core.specs.declared.number.Number.TheVariants.{Known, Between}
use Rattle.kind_core.specs.NumberBounds.{lower, upper, any_number, has_bits, in_bits, on_bounds, sum_bounds, product_bounds, masked_bounds, counted, bounds}
use Rattle.kind_core.specs.Numbers.{number_arithmetic, number_sum, moved_number, number_extended, end_bits}

-- what is known of a number holds of it
abbrev pub NumberIs : Number → ℕ → Type 0
NumberIs (Known a) y = y ≡ a
NumberIs (Between lo hi) y = (lo ≤ y) × (y ≤ hi)

pub any_is : (bits y : ℕ) → y < 2 ^ bits → NumberIs (any_number bits) y
any_is bits y h = (omega arith, omega arith)

-- a number lies between its bounds
pub ends_of : (n : Number) (y : ℕ) → NumberIs n y → (lower n ≤ y) × (y ≤ upper n)
ends_of (Known a) y h = (omega (arith, h), omega (arith, h))
ends_of (Between lo hi) y h = h

below_of : (a b : ℕ) → nat_lt a b ≡ true → a < b
below_of a b h = grind (arith, nat_tests)

-- where both bounds have so many bits
upper_has : (bits : ℕ) (n : Number) → has_bits bits n ≡ true → upper n < 2 ^ bits
upper_has bits n h = below_of (upper n) (2 ^ bits) (and_parts (nat_lt (lower n) (2 ^ bits)) (nat_lt (upper n) (2 ^ bits)) h).1

pub low_below : (bits n : ℕ) → low bits n < 2 ^ bits
low_below bits n = mod_below n (2 ^ bits) (pow_pos bits)

pub low_same : (bits n : ℕ) → n < 2 ^ bits → low bits n ≡ n
low_same bits n h = mod-eq_of_lt h

-- a number that fits has its own low bits
low_of : (bits : ℕ) (n : Number) (y : ℕ) → has_bits bits n ≡ true → NumberIs n y → low bits y ≡ y
low_of bits n y h is = low_same bits y (omega (arith, upper_has bits n h, (ends_of n y is).1))

-- a choice of bounds by a test
by_test : (t : Bool) (a b : Number) (y : ℕ) → (t ≡ true → NumberIs a y) → NumberIs b y → NumberIs (cond t a b) y
by_test true a b y f h = f refl
by_test false a b y f h = h

pub in_bits_is : (bits : ℕ) (n : Number) (y : ℕ) → y < 2 ^ bits → (has_bits bits n ≡ true → NumberIs n y) → NumberIs (in_bits bits n) y
in_bits_is bits n y h f = by_test (has_bits bits n) n (any_number bits) y f (any_is bits y h)

-- an operation that keeps the order, where it is the machine's if its greatest result has so many bits
on_bounds_is : (bits : ℕ) (f : ℕ → ℕ) (n : Number) (y z : ℕ) → ((a b : ℕ) → a ≤ b → f a ≤ f b) → z < 2 ^ bits
    → (has_bits bits n ≡ true → f y < 2 ^ bits → z ≡ f y) → NumberIs n y → NumberIs (on_bounds bits f n) z
on_bounds_is bits f n y z monotone short same is =
    let ends = ends_of n y is in
    let first : f (lower n) ≤ f y = monotone (lower n) y ends.0 in
    let last : f y ≤ f (upper n) = monotone y (upper n) ends.1 in
    by_test (has_bits bits n) (in_bits bits (Between (f (lower n)) (f (upper n)))) (any_number bits) z (λ h.
    in_bits_is bits (Between (f (lower n)) (f (upper n))) z short (λ g.
    let most : f (upper n) < 2 ^ bits = upper_has bits (Between (f (lower n)) (f (upper n))) g in
    let e : z ≡ f y = same h (omega arith) in
    (omega (arith, e, first), omega (arith, e, last)))) (any_is bits z short)

sum_is : (bits : ℕ) (a b : Number) (x y : ℕ) → NumberIs a x → NumberIs b y → NumberIs (sum_bounds bits a b) (low bits (low bits x + low bits y))
sum_is bits a b x y p q =
    let z = low bits (low bits x + low bits y) in
    let short : z < 2 ^ bits = low_below bits (low bits x + low bits y) in
    let left = ends_of a x p in
    let right = ends_of b y q in
    let both = Between (lower a + lower b) (upper a + upper b) in
    by_test (has_bits bits a && has_bits bits b) (in_bits bits both) (any_number bits) z (λ h.
    in_bits_is bits both z short (λ g.
    let most : upper a + upper b < 2 ^ bits = upper_has bits both g in
    let first : low bits x ≡ x = low_of bits a x (and_parts (has_bits bits a) (has_bits bits b) h).0 p in
    let second : low bits y ≡ y = low_of bits b y (and_parts (has_bits bits a) (has_bits bits b) h).1 q in
    let e : z ≡ x + y = ap (low bits) (ap (λ u. u + low bits y) first ∙ ap (λ u. x + u) second) ∙ low_same bits (x + y) (omega (arith, left.1, right.1)) in
    (omega (arith, e, left.0, right.0), omega (arith, e, left.1, right.1)))) (any_is bits z short)

product_is : (bits : ℕ) (n : Number) (c x y : ℕ) → low bits c ≡ low bits y → NumberIs n x → NumberIs (product_bounds bits n c) (low bits (low bits x * low bits y))
product_is bits n c x y same is =
    let z = low bits (low bits x * low bits y) in
    let short : z < 2 ^ bits = low_below bits (low bits x * low bits y) in
    by_test (nat_lt c (2 ^ bits)) (on_bounds bits (λ m. m * c) n) (any_number bits) z (λ t.
    on_bounds_is bits (λ m. m * c) n x z (λ a b le. mul-le-mul_right c le) short (λ h g.
    let known : low bits y ≡ c = sym same ∙ low_same bits c (below_of c (2 ^ bits) t) in
    ap (low bits) (ap (λ u. u * low bits y) (low_of bits n x h is) ∙ ap (λ u. x * u) known) ∙ low_same bits (x * c) g) is) (any_is bits z short)

masked_is : (bits : ℕ) (n : Number) (c x y : ℕ) → low bits c ≡ low bits y → NumberIs n x → NumberIs (masked_bounds bits n c) (bit_and (low bits x) (low bits y))
masked_is bits n c x y same is =
    let ends = ends_of n x is in
    let left : bit_and (low bits x) (low bits y) ≤ low bits x = and_le_l (low bits x) (low bits y) in
    let right : bit_and (low bits x) (low bits y) ≤ low bits y = and_le_r (low bits x) (low bits y) in
    let part : low bits x ≤ x = mod-le x (2 ^ bits) in
    (omega arith, omega (arith, ends.1, left, right, part, same))

-- a shift masks its count, by 32 or 64
count_32 : (n : ℕ) → n % 2 ^ 32 % 32 ≡ n % 32
count_32 n = omega arith

count_64 : (n : ℕ) → n % 2 ^ 64 % 64 ≡ n % 64
count_64 n = omega arith

count_of : (w : Width) (n : ℕ) → low (bits_in w) n % bits_in w ≡ n % bits_in w
count_of Bits32 n = count_32 n
count_of Bits64 n = count_64 n

same_count : (w : Width) (c y : ℕ) → low (bits_in w) c ≡ low (bits_in w) y → low (bits_in w) y % bits_in w ≡ c % bits_in w
same_count w c y same = ap (λ u. u % bits_in w) (sym same) ∙ count_of w c

left_is : (w : Width) (n : Number) (c x y : ℕ) → low (bits_in w) c ≡ low (bits_in w) y → NumberIs n x
    → NumberIs (on_bounds (bits_in w) (λ m. m * 2 ^ (c % bits_in w)) n) (low (bits_in w) (low (bits_in w) x * 2 ^ (low (bits_in w) y % bits_in w)))
left_is w n c x y same is =
    let bits = bits_in w in
    let times = 2 ^ (c % bits) in
    let z = low bits (low bits x * 2 ^ (low bits y % bits)) in
    on_bounds_is bits (λ m. m * times) n x z (λ a b le. mul-le-mul_right times le) (low_below bits (low bits x * 2 ^ (low bits y % bits))) (λ h g.
    ap (low bits) (ap (λ u. u * 2 ^ (low bits y % bits)) (low_of bits n x h is) ∙ ap (λ u. x * 2 ^ u) (same_count w c y same)) ∙ low_same bits (x * times) g) is

right_is : (w : Width) (n : Number) (c x y : ℕ) → low (bits_in w) c ≡ low (bits_in w) y → NumberIs n x → low (bits_in w) x / 2 ^ (low (bits_in w) y % bits_in w) < 2 ^ bits_in w
    → NumberIs (on_bounds (bits_in w) (λ m. m / 2 ^ (c % bits_in w)) n) (low (bits_in w) x / 2 ^ (low (bits_in w) y % bits_in w))
right_is w n c x y same is short =
    let bits = bits_in w in
    let by = 2 ^ (c % bits) in
    on_bounds_is bits (λ m. m / by) n x (low bits x / 2 ^ (low bits y % bits)) (λ a b le. shr_mono (c % bits) le) short (λ h g.
    ap (λ u. u / 2 ^ (low bits y % bits)) (low_of bits n x h is) ∙ ap (λ u. x / 2 ^ u) (same_count w c y same)) is

-- ---- all operations

-- the machine's operation on the low bits
abbrev pub result_of : AluCode → Bool → Width → ℕ → ℕ → ℕ
result_of c signed w x y = arithmetic c signed (bits_in w) (low (bits_in w) x) (low (bits_in w) y)

pub result_below : (c : AluCode) (signed : Bool) (w : Width) (x y : ℕ) → result_of c signed w x y < 2 ^ bits_in w
result_below c signed w x y = arithmetic_below c signed (bits_in w) (low (bits_in w) x) (low (bits_in w) y) (low_below (bits_in w) x) (low_below (bits_in w) y)

bounds_are : (c : AluCode) (signed : Bool) (w : Width) (a b : Number) (x y : ℕ) → NumberIs a x → NumberIs b y → NumberIs (bounds c (bits_in w) a b) (result_of c signed w x y)
bounds_are Add signed w a b x y p q = sum_is (bits_in w) a b x y p q
bounds_are Mul signed w (Known a) (Known b) x y p q = product_is (bits_in w) (Known a) b x y (ap (low (bits_in w)) (sym q)) p
bounds_are Mul signed w (Between lo hi) (Known b) x y p q = product_is (bits_in w) (Between lo hi) b x y (ap (low (bits_in w)) (sym q)) p
bounds_are Mul signed w (Known a) (Between lo hi) x y p q =
    let turned : low (bits_in w) y * low (bits_in w) x ≡ low (bits_in w) x * low (bits_in w) y = omega arith in
    subst (NumberIs (product_bounds (bits_in w) (Between lo hi) a)) (ap (low (bits_in w)) turned) (product_is (bits_in w) (Between lo hi) a y x (ap (low (bits_in w)) (sym p)) q)
bounds_are Mul signed w (Between l h) (Between lo hi) x y p q = any_is (bits_in w) (result_of Mul signed w x y) (result_below Mul signed w x y)
bounds_are And signed w (Known a) (Known b) x y p q = masked_is (bits_in w) (Known a) b x y (ap (low (bits_in w)) (sym q)) p
bounds_are And signed w (Between lo hi) (Known b) x y p q = masked_is (bits_in w) (Between lo hi) b x y (ap (low (bits_in w)) (sym q)) p
bounds_are And signed w (Known a) (Between lo hi) x y p q =
    subst (NumberIs (masked_bounds (bits_in w) (Between lo hi) a)) (and_comm (low (bits_in w) y) (low (bits_in w) x)) (masked_is (bits_in w) (Between lo hi) a y x (ap (low (bits_in w)) (sym p)) q)
bounds_are And signed w (Between l h) (Between lo hi) x y p q = any_is (bits_in w) (result_of And signed w x y) (result_below And signed w x y)
bounds_are Lsh signed w (Known a) (Known b) x y p q = left_is w (Known a) b x y (ap (low (bits_in w)) (sym q)) p
bounds_are Lsh signed w (Between lo hi) (Known b) x y p q = left_is w (Between lo hi) b x y (ap (low (bits_in w)) (sym q)) p
bounds_are Lsh signed w a (Between lo hi) x y p q = any_is (bits_in w) (result_of Lsh signed w x y) (result_below Lsh signed w x y)
bounds_are Rsh signed w (Known a) (Known b) x y p q = right_is w (Known a) b x y (ap (low (bits_in w)) (sym q)) p (result_below Rsh signed w x y)
bounds_are Rsh signed w (Between lo hi) (Known b) x y p q = right_is w (Between lo hi) b x y (ap (low (bits_in w)) (sym q)) p (result_below Rsh signed w x y)
bounds_are Rsh signed w a (Between lo hi) x y p q = any_is (bits_in w) (result_of Rsh signed w x y) (result_below Rsh signed w x y)
bounds_are c signed w a b x y p q = any_is (bits_in w) (result_of c signed w x y) (result_below c signed w x y)

-- an immediate number of class ALU has the same low bits as what it counts as
counted_is : (w : Width) (s : Src) (n : Number) (y : ℕ) → NumberIs n y → (z : ℕ) × (low (bits_in w) z ≡ low (bits_in w) y) × NumberIs (counted w s n) z
counted_is Bits32 K (Known c) y h = (low 32 c, mod-mod c (2 ^ 32) ∙ ap (low 32) (sym h), refl)
counted_is Bits32 K (Between lo hi) y h = (y, refl, h)
counted_is Bits32 X n y h = (y, refl, h)
counted_is Bits64 s n y h = (y, refl, h)

counted_bounds : (c : AluCode) (signed : Bool) (w : Width) (s : Src) (a b : Number) (x y : ℕ) → NumberIs a x → NumberIs b y
    → NumberIs (bounds c (bits_in w) a (counted w s b)) (result_of c signed w x y)
counted_bounds c signed w s a b x y p q =
    let z = counted_is w s b y q in
    subst (NumberIs (bounds c (bits_in w) a (counted w s b))) (ap (λ u. arithmetic c signed (bits_in w) (low (bits_in w) x) u) z.1) (bounds_are c signed w a (counted w s b) x z.0 p z.2)

pub arithmetic_is : (c : AluCode) (signed : Bool) (w : Width) (s : Src) (a b : Number) (x y : ℕ) → NumberIs a x → NumberIs b y
    → NumberIs (number_arithmetic c signed w s a b) (result_of c signed w x y)
arithmetic_is c signed w s (Known a) (Known b) x y p q = ap (λ u. result_of c signed w u y) p ∙ ap (result_of c signed w a) q
arithmetic_is c signed w s (Known a) (Between lo hi) x y p q = ends_of (bounds c (bits_in w) (Known a) (counted w s (Between lo hi))) _ (counted_bounds c signed w s (Known a) (Between lo hi) x y p q)
arithmetic_is c signed w s (Between lo hi) n x y p q = ends_of (bounds c (bits_in w) (Between lo hi) (counted w s n)) _ (counted_bounds c signed w s (Between lo hi) n x y p q)

-- the sum of 64 bits
whole_sum : (a b : Number) (x y : ℕ) → NumberIs a x → NumberIs b y → NumberIs (sum_bounds 64 a b) (low 64 (x + y))
whole_sum a b x y p q =
    let z = low 64 (x + y) in
    let short : z < 2 ^ 64 = low_below 64 (x + y) in
    let left = ends_of a x p in
    let right = ends_of b y q in
    let both = Between (lower a + lower b) (upper a + upper b) in
    by_test (has_bits 64 a && has_bits 64 b) (in_bits 64 both) (any_number 64) z (λ h.
    in_bits_is 64 both z short (λ g.
    let most : upper a + upper b < 2 ^ 64 = upper_has 64 both g in
    let e : z ≡ x + y = low_same 64 (x + y) (omega (arith, left.1, right.1)) in
    (omega (arith, e, left.0, right.0), omega (arith, e, left.1, right.1)))) (any_is 64 z short)

pub number_sum_is : (a b : Number) (x y : ℕ) → NumberIs a x → NumberIs b y → NumberIs (number_sum a b) (low 64 (x + y))
number_sum_is (Known a) (Known b) x y p q = ap (λ u. low 64 (u + y)) p ∙ ap (λ u. low 64 (a + u)) q
number_sum_is (Known a) (Between lo hi) x y p q = ends_of (sum_bounds 64 (Known a) (Between lo hi)) _ (whole_sum (Known a) (Between lo hi) x y p q)
number_sum_is (Between lo hi) n x y p q = ends_of (sum_bounds 64 (Between lo hi) n) _ (whole_sum (Between lo hi) n x y p q)

-- MOV
moved_is : (w : Width) (count : ℕ) (lo hi y : ℕ) → NumberIs (Between lo hi) y → NumberIs (moved_number w count (Between lo hi)) (extended (bits_in w) count y)
moved_is w zero lo hi y h =
    in_bits_is (bits_in w) (Between lo hi) (low (bits_in w) y) (low_below (bits_in w) y) (λ t.
    let e : low (bits_in w) y ≡ y = low_of (bits_in w) (Between lo hi) y t h in
    (omega (arith, e, h.0), omega (arith, e, h.1)))
moved_is w (suc count) lo hi y h = any_is (bits_in w) _ (low_below (bits_in w) _)

pub extended_is : (w : Width) (count : ℕ) (n : Number) (y : ℕ) → NumberIs n y → NumberIs (number_extended w count n) (extended (bits_in w) count y)
extended_is w count (Known a) y h = ap (extended (bits_in w) count) h
extended_is w count (Between lo hi) y h = ends_of (moved_number w count (Between lo hi)) _ (moved_is w count lo hi y h)

-- NEG
pub negated_below : (w : Width) (y : ℕ) → negated (bits_in w) y < 2 ^ bits_in w
negated_below w y = low_below (bits_in w) (2 ^ bits_in w - low (bits_in w) y)

-- END
reversed_below : (k v : ℕ) → reversed_of k v < 256 ^ k
reversed_below zero v = omega arith
reversed_below (suc k) v =
    let rest = reversed_below k (v / 256) in
    let digit : v % 256 ≤ 255 = omega (arith, mod_below v 256 (omega arith)) in
    let first : v % 256 * 256 ^ k ≤ 255 * 256 ^ k = mul-le-mul_right (256 ^ k) digit in
    omega (arith, rest, first, pow-suc 256 k)

end_at : (s : Src) (bits y : ℕ) → (bits ≡ 16) ⊎ ((bits ≡ 32) ⊎ (bits ≡ 64)) → ordered s bits y < 2 ^ end_bits bits
end_at K bits y (inl e) = subst (λ b. ordered K b y < 2 ^ end_bits b) (sym e) (omega (arith, low_below 16 y))
end_at K bits y (inr (inl e)) = subst (λ b. ordered K b y < 2 ^ end_bits b) (sym e) (low_below 32 y)
end_at K bits y (inr (inr e)) = subst (λ b. ordered K b y < 2 ^ end_bits b) (sym e) (low_below 64 y)
end_at X bits y (inl e) = subst (λ b. ordered X b y < 2 ^ end_bits b) (sym e) (omega (arith, reversed_below 2 (low 16 y)))
end_at X bits y (inr (inl e)) = subst (λ b. ordered X b y < 2 ^ end_bits b) (sym e) (omega (arith, reversed_below 4 (low 32 y)))
end_at X bits y (inr (inr e)) = subst (λ b. ordered X b y < 2 ^ end_bits b) (sym e) (omega (arith, reversed_below 8 (low 64 y)))

bits_at : (z : ℤ) → (z ≡ pos 16) ⊎ ((z ≡ pos 32) ⊎ (z ≡ pos 64)) → (unsigned_abs z ≡ 16) ⊎ ((unsigned_abs z ≡ 32) ⊎ (unsigned_abs z ≡ 64))
bits_at z (inl e) = inl (ap unsigned_abs e)
bits_at z (inr (inl e)) = inr (inl (ap unsigned_abs e))
bits_at z (inr (inr e)) = inr (inr (ap unsigned_abs e))

pub end_below : (s : Src) (z : ℤ) (y : ℕ) → (z ≡ pos 16) ⊎ ((z ≡ pos 32) ⊎ (z ≡ pos 64)) → ordered s (unsigned_abs z) y < 2 ^ end_bits (unsigned_abs z)
end_below s z y h = end_at s (unsigned_abs z) y (bits_at z h)

-- ---- bytes

from_bytes : (n a : ℕ) (bytes : List ℕ) → AreBytes bytes → little_from 0 n (slice_range bytes a (a + n)) < 256 ^ n
from_bytes n a bytes all = little_from-lt 0 n (slice_range bytes a (a + n)) (λ k. at_or (λ b. b < 256) (slice_range bytes a (a + n)) k 0 (bytes_in_slice bytes a (a + n) all) (omega arith))

pub number_short : (size : Size) (a : ℕ) (bytes : List ℕ) → AreBytes bytes → number_at size a bytes < 2 ^ (8 * bytes_in size)
number_short B a bytes all = from_bytes 1 a bytes all
number_short H a bytes all = from_bytes 2 a bytes all
number_short W a bytes all = from_bytes 4 a bytes all
number_short Dw a bytes all = from_bytes 8 a bytes all

-- ---- results of 128 bits

pub product_fits : (a b : ℕ) → a < 2 ^ 64 → b < 2 ^ 64 → a * b < 2 ^ 128
product_fits a b h g =
    let first : a ≤ 2 ^ 64 - 1 = omega arith in
    let wide : a * b ≤ (2 ^ 64 - 1) * b = mul-le-mul_right b first in
    omega (arith, wide, g)

pub shifted_whole : (a k : ℕ) → a < 2 ^ 64 → k < 64 → a * 2 ^ k % 2 ^ 128 ≡ a * 2 ^ k
shifted_whole a k h g =
    let times : 2 ^ k < 2 ^ 64 = pow-lt g in
    mod-eq_of_lt (product_fits a (2 ^ k) h times)
