-- Conditions of jumps.
use Rattle.std.proofs.Common.{◌≡◌, ℕ, ◌-◌, ◌^◌, ◌<◌, true, false, [], ◌∷◌, nat_lt, nat_le, int_lt, int_le, refl, ◌∙◌, ap, arith}
use Rattle.std.specs.Prelude.{◌==◌, bit_and}
use Rattle.std.proofs.lemmas.Bool.Decides.{nat_tests}
use Rattle.std.proofs.lemmas.Int.{ints}
use Rattle.cell_core.specs.bits_core.Bits.{signed_of}
use Rattle.cell_core.specs.bpf_isa.declared.operation.Width.{Width}
use Rattle.cell_core.specs.bpf_isa.declared.operation.Width.TheVariants.{Bits32, Bits64}
use Rattle.cell_core.specs.bpf_isa.declared.operation.JumpCode.{JumpCode}
use Rattle.cell_core.specs.bpf_isa.declared.operation.JumpCode.TheVariants.{Jeq, Jgt, Jge, Jset, Jne, Jsgt, Jsge, Jlt, Jle, Jslt, Jsle}
use Rattle.cell_core.specs.xdp_machine.Arithmetic.{bits_in, low, arithmetic, holds}
use Rattle.kind_core.proofs.xdp_machine_laws.NumberLaws.{widened}
use Rattle.cell_core.specs.bpf_isa.declared.operation.AluCode.TheVariants.{And}
use Rattle.std.specs.Int.Bits.{and_lt}
use Rattle.cell_core.specs.Cells.{bit, joined, bits_from}
use Rattle.operator_cells.specs.Comparing.{turned, is_signed, unsigned}
use Rattle.operator_cells.proofs.Numbers.{from_zero, low_same, low_below}
use Rattle.operator_cells.proofs.MakingLaws.{not_bit}

-- what the cells of `turn` make
turned_32 : (n : ℕ) → bits_from (joined 31 (low 1 (2 ^ 64 - 1 - bits_from n 31 1) ∷ bits_from n 0 31 ∷ [])) 0 32 ≡ turned 32 n
turned_32 n = omega arith

turned_64 : (n : ℕ) → bits_from (joined 63 (low 1 (2 ^ 64 - 1 - bits_from n 63 1) ∷ bits_from n 0 63 ∷ [])) 0 64 ≡ turned 64 n
turned_64 n = omega arith

pub turned_is : (w : Width) (n : ℕ) → bits_from (joined (bits_in w - 1) (low 1 (2 ^ 64 - 1 - bits_from n (bits_in w - 1) 1) ∷ bits_from n 0 (bits_in w - 1) ∷ [])) 0 (bits_in w) ≡ turned (bits_in w) n
turned_is Bits32 n = turned_32 n
turned_is Bits64 n = turned_64 n

less_32 : (a b : ℕ) → a < 2 ^ 32 → b < 2 ^ 32 → nat_lt (turned 32 a) (turned 32 b) ≡ int_lt (signed_of 32 a) (signed_of 32 b)
less_32 a b h g = grind (arith, nat_tests, ints)

less_64 : (a b : ℕ) → a < 2 ^ 64 → b < 2 ^ 64 → nat_lt (turned 64 a) (turned 64 b) ≡ int_lt (signed_of 64 a) (signed_of 64 b)
less_64 a b h g = grind (arith, nat_tests, ints)

at_most_32 : (a b : ℕ) → a < 2 ^ 32 → b < 2 ^ 32 → nat_le (turned 32 a) (turned 32 b) ≡ int_le (signed_of 32 a) (signed_of 32 b)
at_most_32 a b h g = grind (arith, nat_tests, ints)

at_most_64 : (a b : ℕ) → a < 2 ^ 64 → b < 2 ^ 64 → nat_le (turned 64 a) (turned 64 b) ≡ int_le (signed_of 64 a) (signed_of 64 b)
at_most_64 a b h g = grind (arith, nat_tests, ints)

less_is : (w : Width) (a b : ℕ) → a < 2 ^ bits_in w → b < 2 ^ bits_in w → nat_lt (turned (bits_in w) a) (turned (bits_in w) b) ≡ int_lt (signed_of (bits_in w) a) (signed_of (bits_in w) b)
less_is Bits32 a b h g = less_32 a b h g
less_is Bits64 a b h g = less_64 a b h g

at_most_is : (w : Width) (a b : ℕ) → a < 2 ^ bits_in w → b < 2 ^ bits_in w → nat_le (turned (bits_in w) a) (turned (bits_in w) b) ≡ int_le (signed_of (bits_in w) a) (signed_of (bits_in w) b)
at_most_is Bits32 a b h g = at_most_32 a b h g
at_most_is Bits64 a b h g = at_most_64 a b h g

pub turned_below : (w : Width) (n : ℕ) → turned (bits_in w) n < 2 ^ 64
turned_below w n = widened w _ (low_below (bits_in w) _)

holds_signed_as : (c : JumpCode) (w : Width) (p q : ℕ) → is_signed c ≡ true → p < 2 ^ bits_in w → q < 2 ^ bits_in w
    → holds (unsigned c) 64 (turned (bits_in w) p) (turned (bits_in w) q) ≡ holds c (bits_in w) p q
holds_signed_as Jsgt w p q t h g = less_is w q p g h
holds_signed_as Jsge w p q t h g = at_most_is w q p g h
holds_signed_as Jslt w p q t h g = less_is w p q h g
holds_signed_as Jsle w p q t h g = at_most_is w p q h g
holds_signed_as c w p q t h g = absurd (cc)

holds_plain_as : (c : JumpCode) (w p q : ℕ) → is_signed c ≡ false → holds c 64 p q ≡ holds c w p q
holds_plain_as Jeq w p q t = refl
holds_plain_as Jne w p q t = refl
holds_plain_as Jset w p q t = refl
holds_plain_as Jgt w p q t = refl
holds_plain_as Jge w p q t = refl
holds_plain_as Jlt w p q t = refl
holds_plain_as Jle w p q t = refl
holds_plain_as c w p q t = absurd (cc)

cut_low : (c : JumpCode) (p q : ℕ) → p < 2 ^ 64 → q < 2 ^ 64 → holds c 64 (low 64 p) (low 64 q) ≡ holds c 64 p q
cut_low c p q h g = ap (λ (n : ℕ). holds c 64 n (low 64 q)) (low_same 64 p h) ∙ ap (holds c 64 p) (low_same 64 q g)

pub holds_signed : (c : JumpCode) (w : Width) (p q : ℕ) → is_signed c ≡ true → p < 2 ^ bits_in w → q < 2 ^ bits_in w
    → holds (unsigned c) 64 (low 64 (turned (bits_in w) p)) (low 64 (turned (bits_in w) q)) ≡ holds c (bits_in w) p q
holds_signed c w p q t h g = cut_low (unsigned c) _ _ (turned_below w p) (turned_below w q) ∙ holds_signed_as c w p q t h g

pub holds_plain : (c : JumpCode) (w : Width) (p q : ℕ) → is_signed c ≡ false → p < 2 ^ bits_in w → q < 2 ^ bits_in w
    → holds c 64 (low 64 p) (low 64 q) ≡ holds c (bits_in w) p q
holds_plain c w p q t h g = cut_low c p q (widened w p h) (widened w q g) ∙ holds_plain_as c (bits_in w) p q t

-- the numbers of what is compared
pub of_both : (c : JumpCode) (w a b p q : ℕ) → p ≡ a → q ≡ b → bit (holds c w p q) ≡ bit (holds c w a b)
of_both c w a b p q e f = ap (λ (n : ℕ). bit (holds c w n q)) e ∙ ap (λ (n : ℕ). bit (holds c w a n)) f

-- of two words the common bits are one
pub none_common : (a b both nil none : ℕ) → both ≡ bits_from (arithmetic And false 64 (low 64 a) (low 64 b)) 0 64 → nil ≡ bits_from 0 0 1 → none ≡ bit (low 64 both == low 64 nil)
    → low 1 (2 ^ 64 - 1 - none) ≡ bit (holds Jset 64 (low 64 a) (low 64 b))
none_common a b both nil none e f g =
    ap (λ (n : ℕ). low 1 (2 ^ 64 - 1 - n)) (g ∙ (ap (λ (n : ℕ). bit (low 64 n == low 64 nil)) (e ∙ from_zero _ 64 ∙ is) ∙ ap (λ (n : ℕ). bit (low 64 (bit_and (low 64 a) (low 64 b)) == low 64 n)) (f ∙ from_zero 0 1)
    ∙ ap (λ (n : ℕ). bit (n == 0)) is))
    ∙ not_bit (bit_and (low 64 a) (low 64 b) == 0)
  where
    is : low 64 (bit_and (low 64 a) (low 64 b)) ≡ bit_and (low 64 a) (low 64 b)
    is = low_same 64 _ (and_lt 64 (low 64 a) (low 64 b) (low_below 64 a) (low_below 64 b))
