-- Numbers stay below 2 ^ w.
use Rattle.std.proofs.Common.{◌≡◌, ℕ, zero, suc, ◌+◌, ◌*◌, ◌/◌, ◌%◌, ◌^◌, ◌<◌, ◌≤◌, ◌⊎◌, inl, inr, ℤ, pos, negsuc, ◌-ℤ◌, Bool, true, false, List, ◌++◌, take, length, Some, None, sym, subst, arith}
use Rattle.std.specs.Prelude.{Option, if◌then◌else◌, nat_lt, nat_le, not, ◌==◌, ◌&&◌, unsigned_abs, slice_range}
use Rattle.std.specs.Int.{w64, cast_unsigned}
use Rattle.std.specs.Int.Signed.{mag}
use Rattle.std.specs.Int.Bits.{and_lt}
use Rattle.std.proofs.Math.Nat.{div-le_self, mod-le, mul-le-mul_right, pow-suc}
use Rattle.std.proofs.lemmas.Int.{ints}
use Rattle.std.proofs.lemmas.Nat.{mod_below, pow_pos, or_lt, xor_lt}
use Rattle.std.proofs.lemmas.List.Elements.{All-append, All-take, All-drop}
use Rattle.byteorder.specs.Endian.{little_number}
use Rattle.byteorder.specs.Numbers.{little_from-lt}
use Rattle.bpf_isa.specs.bits_core.Bits.{bits_of, reversed_of, div_u_of, mod_u_of}
use Rattle.bpf_isa.specs.declared.operation.Src.TheVariants.{X}
use Rattle.bpf_isa.specs.declared.operation.Width.{Width}
use Rattle.bpf_isa.specs.declared.operation.Width.TheVariants.{Bits32, Bits64}
use Rattle.bpf_isa.specs.declared.operation.Size.{Size}
use Rattle.bpf_isa.specs.declared.operation.Size.TheVariants.{B, H, W, Dw}
use Rattle.bpf_isa.specs.declared.operation.AluCode.{AluCode}
use Rattle.bpf_isa.specs.declared.operation.AluCode.TheVariants.{Add, Sub, Mul, Div, Or, And, Lsh, Rsh, Mod, Xor, Mov, Arsh}
use Rattle.bpf_isa.specs.declared.operation.Op.{Op}
use Rattle.bpf_isa.specs.declared.operation.Op.TheVariants.{LoadImm}
use Rattle.bpf_isa.specs.Spelling.{FitsOp}
use Rattle.std.specs.FinMap as map
use Rattle.xdp_maps.specs.declared.decl.MapKind.{MapKind}
use Rattle.xdp_maps.specs.declared.decl.MapKind.TheVariants.{Hash, Array}
use Rattle.xdp_maps.specs.declared.decl.MapDecl.{MapDecl}
use Rattle.xdp_maps.specs.declared.errno.TheConstants.{ENOENT}
use Rattle.xdp_maps.specs.Contents.{Contents, index_of}
use Rattle.xdp_maps.specs.Calls.{patched, number_of, update_error_as, delete_error_as, number_at as change_number}
use Rattle.xdp_machine.specs.Arithmetic.{bits_in, low, arithmetic, negated, extended, ordered}
use Rattle.xdp_machine.specs.Memory.{bytes_in, number_at}
use Rattle.xdp_machine.proofs.PartLaws.{AreBytes, at_or, bytes_in_slice}

low_below : (w n : ℕ) → low w n < 2 ^ w
low_below w n = mod_below n (2 ^ w) (pow_pos w)

bits_of_below : (w : ℕ) (z : ℤ) → bits_of w z < 2 ^ w
bits_of_below w (pos n) = mod_below n (2 ^ w) (pow_pos w)
bits_of_below w (negsuc n) = omega (arith, pow_pos w)

div_u_below : (a b k : ℕ) → a < k → div_u_of a b < k
div_u_below a zero k h = omega arith
div_u_below a (suc b) k h = omega (arith, div-le_self a (suc b))

mod_u_below : (a b k : ℕ) → a < k → b < k → mod_u_of a b < k
mod_u_below a zero k h g = h
mod_u_below a (suc b) k h g = omega (arith, mod_below a (suc b) (omega arith))

pub arithmetic_below : (c : AluCode) (signed : Bool) (w a b : ℕ) → a < 2 ^ w → b < 2 ^ w → arithmetic c signed w a b < 2 ^ w
arithmetic_below Add signed w a b h g = low_below w _
arithmetic_below Sub signed w a b h g = low_below w _
arithmetic_below Mul signed w a b h g = low_below w _
arithmetic_below Div true w a b h g = bits_of_below w _
arithmetic_below Div false w a b h g = div_u_below a b (2 ^ w) h
arithmetic_below Mod true w a b h g = bits_of_below w _
arithmetic_below Mod false w a b h g = mod_u_below a b (2 ^ w) h g
arithmetic_below Or signed w a b h g = or_lt w a b h g
arithmetic_below And signed w a b h g = and_lt w a b h g
arithmetic_below Xor signed w a b h g = xor_lt w a b h g
arithmetic_below Lsh signed w a b h g = low_below w _
arithmetic_below Rsh signed w a b h g = omega (arith, h, div-le_self a (2 ^ (b % w)))
arithmetic_below Arsh signed w a b h g = bits_of_below w _
arithmetic_below Mov signed w a b h g = g

extended_below : (w count n : ℕ) → extended w count n < 2 ^ w
extended_below w zero n = low_below w n
extended_below w (suc k) n = low_below w _

-- a number of 32 or 64 bits has 64
pub widened : (w : Width) (n : ℕ) → n < 2 ^ bits_in w → n < 2 ^ 64
widened Bits32 n h = omega (arith, h)
widened Bits64 n h = h

pub computed_word : (w : Width) (c : AluCode) (signed : Bool) (a b : ℕ) → arithmetic c signed (bits_in w) (low (bits_in w) a) (low (bits_in w) b) < 2 ^ 64
computed_word w c signed a b = widened w _ (arithmetic_below c signed (bits_in w) _ _ (low_below (bits_in w) a) (low_below (bits_in w) b))

pub extended_word : (w : Width) (count n : ℕ) → extended (bits_in w) count n < 2 ^ 64
extended_word w count n = widened w _ (extended_below (bits_in w) count n)

pub signed_word : (count n : ℕ) → extended 64 count n < 2 ^ 64
signed_word count n = extended_below 64 count n

pub negated_word : (w : Width) (n : ℕ) → negated (bits_in w) n < 2 ^ 64
negated_word w n = widened w _ (low_below (bits_in w) _)

reversed_below : (k v : ℕ) → reversed_of k v < 256 ^ k
reversed_below zero v = omega arith
reversed_below (suc k) v =
    let rest = reversed_below k (v / 256) in
    let digit : v % 256 ≤ 255 = omega (arith, mod_below v 256 (omega arith)) in
    let first : v % 256 * 256 ^ k ≤ 255 * 256 ^ k = mul-le-mul_right (256 ^ k) digit in
    omega (arith, rest, first, pow-suc 256 k)

pub little_word : (w n : ℕ) → n < 2 ^ 64 → low w n < 2 ^ 64
little_word w n h = omega (arith, h, mod-le n (2 ^ w))

pub big_word : (z : ℤ) (n : ℕ) → (z ≡ pos 16) ⊎ ((z ≡ pos 32) ⊎ (z ≡ pos 64)) → ordered X (unsigned_abs z) n < 2 ^ 64
big_word z n (inl e) = subst (λ (y : ℤ). ordered X (unsigned_abs y) n < 2 ^ 64) (sym e) (omega (arith, reversed_below 2 (low 16 n)))
big_word z n (inr (inl e)) = subst (λ (y : ℤ). ordered X (unsigned_abs y) n < 2 ^ 64) (sym e) (omega (arith, reversed_below 4 (low 32 n)))
big_word z n (inr (inr e)) = subst (λ (y : ℤ). ordered X (unsigned_abs y) n < 2 ^ 64) (sym e) (omega (arith, reversed_below 8 (low 64 n)))

pub word_of : (z : ℤ) → mag z < 2 ^ 63 → cast_unsigned w64 z < 2 ^ 64
word_of (pos n) h = omega (arith, h)
word_of (negsuc n) h = omega (arith, h)

pub word_of_difference : (a b : ℤ) → mag a < 2 ^ 63 → mag b < 2 ^ 63 → cast_unsigned w64 (a -ℤ b) < 2 ^ 64
word_of_difference a b h g = grind (arith, ints)

pub imm_fits : (op : Op) (imm : ℤ) → FitsOp op imm → mag imm < 2 ^ 63
imm_fits LoadImm imm h = h.sfits
imm_fits op imm h = omega (arith, h.sfits)

pub number_word : (size : Size) (a : ℕ) (bytes : List ℕ) → AreBytes bytes → number_at size a bytes < 2 ^ 64
number_word size a bytes all = by_size size (little_from-lt 0 (bytes_in size) (slice_range bytes a (a + bytes_in size)) (λ k. at_or (λ b. b < 256) (slice_range bytes a (a + bytes_in size)) k 0 (bytes_in_slice bytes a (a + bytes_in size) all) (omega arith)))
  where
    by_size : (s : Size) → number_at size a bytes < 256 ^ bytes_in s → number_at size a bytes < 2 ^ 64
    by_size B h = omega (arith, h)
    by_size H h = omega (arith, h)
    by_size W h = omega (arith, h)
    by_size Dw h = h

pub bytes_patched : (bytes : List ℕ) (at : ℕ) (others : List ℕ) → AreBytes bytes → AreBytes others → AreBytes (patched bytes at others)
bytes_patched bytes at others all more =
    All-append (λ b. b < 256) (take at bytes ++ others) _ (All-append (λ b. b < 256) (take at bytes) others (All-take (λ b. b < 256) at bytes all) more)
    (All-drop (λ b. b < 256) (at + length others) bytes all)

pub bytes_word : (bytes : List ℕ) → AreBytes bytes → little_number 8 bytes < 2 ^ 64
bytes_word bytes all = little_from-lt 0 8 bytes (λ k. at_or (λ b. b < 256) bytes k 0 all (omega arith))

pub change_number_word : (wide : Bool) (at : ℕ) (bytes : List ℕ) → AreBytes bytes → change_number wide at bytes < 2 ^ 64
change_number_word true at bytes all = little_from-lt 0 8 (slice_range bytes at (at + 8)) (λ k. at_or (λ b. b < 256) (slice_range bytes at (at + 8)) k 0 (bytes_in_slice bytes at (at + 8) all) (omega arith))
change_number_word false at bytes all =
    let h = little_from-lt 0 4 (slice_range bytes at (at + 4)) (λ k. at_or (λ b. b < 256) (slice_range bytes at (at + 4)) k 0 (bytes_in_slice bytes at (at + 4) all) (omega arith)) in
    omega (arith, h)

-- ---- the numbers of helpers

IsSmall : Option ℤ → Type 0
IsSmall o = mag (number_of o) < 2 ^ 63

small_if : (b : Bool) (x y : Option ℤ) → IsSmall x → IsSmall y → IsSmall (if b then x else y)
small_if true x y p q = p
small_if false x y p q = q

pub update_number_fits : (k : MapKind) (d : MapDecl) (c : Contents) (key : List ℕ) (flags : ℕ) → mag (number_of (update_error_as k d c key flags)) < 2 ^ 63
unfolding IsSmall
update_number_fits Hash d c key flags =
    small_if (nat_lt 2 flags) _ _ (omega arith) (small_if ((flags == 1) && map.contains_key c key) _ _ (omega arith) (small_if ((flags == 2) && not (map.contains_key c key)) _ _ (omega arith)
    (small_if (not (map.contains_key c key) && nat_le d.cap (map.len c)) _ _ (omega arith) (omega arith))))
update_number_fits Array d c key flags =
    small_if (nat_lt 2 flags) _ _ (omega arith) (small_if (nat_le d.cap (index_of key)) _ _ (omega arith) (small_if (flags == 1) _ _ (omega arith) (omega arith)))

pub delete_number_fits : (k : MapKind) (c : Contents) (key : List ℕ) → mag (number_of (delete_error_as k c key)) < 2 ^ 63
unfolding IsSmall
delete_number_fits Hash c key = small_if (map.contains_key c key) None (Some ENOENT) (omega arith) (omega arith)
delete_number_fits Array c key = omega arith
