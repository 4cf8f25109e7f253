-- What operators on 64 bits are on w.
use Rattle.std.proofs.Common.{◌≡◌, ℕ, ◌+◌, ◌-◌, ◌*◌, ◌%◌, ◌^◌, ◌<◌, Bool, true, false, [], ◌∷◌, refl, ◌∙◌, ap, arith}
use Rattle.std.specs.Int.Bits.{and_lt}
use Rattle.std.proofs.lemmas.Nat.{mod_below, pow_pos, or_lt, xor_lt}
use Rattle.std.proofs.Math.Nat.{div-one, mod-eq_of_lt}
use Rattle.cell_core.specs.bpf_isa.declared.operation.Width.{Width}
use Rattle.cell_core.specs.bpf_isa.declared.operation.Width.TheVariants.{Bits32, Bits64}
use Rattle.cell_core.specs.bpf_isa.declared.operation.AluCode.{AluCode}
use Rattle.cell_core.specs.bpf_isa.declared.operation.AluCode.TheVariants as alu
use Rattle.cell_core.specs.xdp_machine.Arithmetic.{bits_in, low, arithmetic, negated}
use Rattle.cell_core.specs.xdp_machine.State.{PacketIn}
use Rattle.kind_core.proofs.xdp_machine_laws.NumberLaws.{widened}
use Rattle.cell_core.specs.declared.operator.Operator.TheVariants as op
use Rattle.cell_core.specs.Cells.{number, bits_from}
use Rattle.operator_cells.specs.Making.{operator_of, is_one}

pub from_zero : (n w : ℕ) → bits_from n 0 w ≡ low w n
from_zero n w = ap (λ (k : ℕ). k % 2 ^ w) (div-one n)

pub low_same : (w n : ℕ) → n < 2 ^ w → low w n ≡ n
low_same w n h = mod-eq_of_lt {n = n} {m = 2 ^ w} h

pub low_below : (w n : ℕ) → low w n < 2 ^ w
low_below w n = mod_below n (2 ^ w) (pow_pos w)

narrow : (n : ℕ) → n % 2 ^ 64 % 2 ^ 32 ≡ n % 2 ^ 32
narrow n = omega arith

less : (p q : ℕ) → q < 2 ^ 32 → (p + (2 ^ 64 - q)) % 2 ^ 64 % 2 ^ 32 ≡ (p + (2 ^ 32 - q)) % 2 ^ 32
less p q h = omega (arith, h)

one_32 : (c : AluCode) (signed : Bool) (p q : ℕ) → is_one c ≡ true → p < 2 ^ 32 → q < 2 ^ 32 → low 32 (arithmetic c false 64 p q) ≡ arithmetic c signed 32 p q
one_32 alu.Add signed p q t h g = narrow (p + q)
one_32 alu.Sub signed p q t h g = less p q g
one_32 alu.Mul signed p q t h g = narrow (p * q)
one_32 alu.Or signed p q t h g = low_same 32 _ (or_lt 32 p q h g)
one_32 alu.And signed p q t h g = low_same 32 _ (and_lt 32 p q h g)
one_32 alu.Xor signed p q t h g = low_same 32 _ (xor_lt 32 p q h g)
one_32 c signed p q t h g = absurd (cc)

one_64 : (c : AluCode) (signed : Bool) (p q : ℕ) → is_one c ≡ true → p < 2 ^ 64 → q < 2 ^ 64 → low 64 (arithmetic c false 64 p q) ≡ arithmetic c signed 64 p q
one_64 alu.Add signed p q t h g = low_same 64 _ (low_below 64 _)
one_64 alu.Sub signed p q t h g = low_same 64 _ (low_below 64 _)
one_64 alu.Mul signed p q t h g = low_same 64 _ (low_below 64 _)
one_64 alu.Or signed p q t h g = low_same 64 _ (or_lt 64 p q h g)
one_64 alu.And signed p q t h g = low_same 64 _ (and_lt 64 p q h g)
one_64 alu.Xor signed p q t h g = low_same 64 _ (xor_lt 64 p q h g)
one_64 c signed p q t h g = absurd (cc)

one_is : (w : Width) (c : AluCode) (signed : Bool) (p q : ℕ) → is_one c ≡ true → p < 2 ^ bits_in w → q < 2 ^ bits_in w
    → low (bits_in w) (arithmetic c false 64 p q) ≡ arithmetic c signed (bits_in w) p q
one_is Bits32 c signed p q t h g = one_32 c signed p q t h g
one_is Bits64 c signed p q t h g = one_64 c signed p q t h g

operator_number : (packet : PacketIn) (c : AluCode) (p q : ℕ) → is_one c ≡ true → number packet (operator_of c) (p ∷ q ∷ []) ≡ arithmetic c false 64 (low 64 p) (low 64 q)
operator_number packet alu.Add p q t = refl
operator_number packet alu.Sub p q t = refl
operator_number packet alu.Mul p q t = refl
operator_number packet alu.Or p q t = refl
operator_number packet alu.And p q t = refl
operator_number packet alu.Xor p q t = refl
operator_number packet c p q t = absurd (cc)

-- one operator on two numbers of w bits
pub operated_one : (packet : PacketIn) (w : Width) (c : AluCode) (signed : Bool) (p q : ℕ) → is_one c ≡ true → p < 2 ^ bits_in w → q < 2 ^ bits_in w
    → bits_from (number packet (operator_of c) (p ∷ q ∷ [])) 0 (bits_in w) ≡ arithmetic c signed (bits_in w) p q
operated_one packet w c signed p q t h g =
    from_zero (number packet (operator_of c) (p ∷ q ∷ [])) (bits_in w)
    ∙ ap (low (bits_in w)) (operator_number packet c p q t ∙ (ap (λ (n : ℕ). arithmetic c false 64 n (low 64 q)) (low_same 64 p (widened w p h)) ∙ ap (arithmetic c false 64 p) (low_same 64 q (widened w q g))))
    ∙ one_is w c signed p q t h g

-- 0 less a number is the number with the other sign
pub negated_is : (packet : PacketIn) (w : Width) (n nil x : ℕ) → nil ≡ bits_from 0 0 1 → x ≡ low (bits_in w) n → bits_from (number packet op.Sub (nil ∷ x ∷ [])) 0 (bits_in w) ≡ negated (bits_in w) n
negated_is packet w n nil x e f =
    let none : nil ≡ 0 = e ∙ from_zero 0 1 in
    let plus : 0 + (2 ^ bits_in w - low (bits_in w) n) ≡ 2 ^ bits_in w - low (bits_in w) n = omega arith in
    ap (λ (k : ℕ). bits_from (number packet op.Sub (k ∷ x ∷ [])) 0 (bits_in w)) none
    ∙ ap (λ (k : ℕ). bits_from (number packet op.Sub (0 ∷ k ∷ [])) 0 (bits_in w)) f
    ∙ operated_one packet w alu.Sub false 0 (low (bits_in w) n) refl (pow_pos (bits_in w)) (low_below (bits_in w) n)
    ∙ ap (low (bits_in w)) plus
