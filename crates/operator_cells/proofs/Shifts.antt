-- Shifts.
use Rattle.std.proofs.Common.{◌≡◌, ℕ, ◌+◌, ◌-◌, ◌*◌, ◌/◌, ◌%◌, ◌^◌, ◌<◌, ◌≤◌, Bool, false, [], ◌∷◌, sym, ◌∙◌, ap, subst, arith}
use Rattle.std.proofs.lemmas.Nat.{mod_below, pow_pos, mod-pow-add, mul-mod_first, div-mul-add}
use Rattle.std.proofs.Math.Nat.{mod-mod, div-le_self}
use Rattle.cell_core.specs.bpf_isa.declared.operation.Width.{Width}
use Rattle.cell_core.specs.bpf_isa.declared.operation.Width.TheVariants.{Bits32, Bits64}
use Rattle.cell_core.specs.bpf_isa.declared.operation.AluCode.TheVariants.{Lsh, Rsh}
use Rattle.cell_core.specs.xdp_machine.Arithmetic.{bits_in, low, arithmetic}
use Rattle.kind_core.proofs.xdp_machine_laws.NumberLaws.{widened}
use Rattle.cell_core.specs.Cells.{bits_from, joined}
use Rattle.operator_cells.specs.Shifting.{count_bits}
use Rattle.operator_cells.proofs.Numbers.{from_zero, low_same, low_below}

-- cutting to 64 bits first changes nothing
pub cut_twice : (w : Width) (n : ℕ) → low (bits_in w) (low 64 n) ≡ low (bits_in w) n
cut_twice Bits32 n = omega arith
cut_twice Bits64 n = mod-mod n (2 ^ 64)

cut_factor : (w : Width) (n m : ℕ) → low (bits_in w) (low 64 n * m) ≡ low (bits_in w) (low (bits_in w) n * m)
cut_factor w n m = sym (mul-mod_first (low 64 n) m (2 ^ bits_in w)) ∙ ap (λ (k : ℕ). low (bits_in w) (k * m)) (cut_twice w n)

nothing_below : (n a : ℕ) → low 64 (0 * n) + a ≡ a
nothing_below n a = omega arith

-- a number above zeros
pub raised_is : (w : Width) (a nil n : ℕ) → nil ≡ bits_from 0 0 1 → bits_from (joined n (a ∷ nil ∷ [])) 0 (bits_in w) ≡ low (bits_in w) (low (bits_in w) a * 2 ^ n)
raised_is w a nil n e =
    let none : nil ≡ 0 = e ∙ from_zero 0 1 in
    let first = low 64 (low 64 (0 * 2 ^ n) + a) in
    let zeros : low 64 (first * 2 ^ n) + nil ≡ low 64 (first * 2 ^ n) = omega (arith, none) in
    from_zero _ (bits_in w)
    ∙ cut_twice w (low 64 (first * 2 ^ n) + nil)
    ∙ ap (low (bits_in w)) zeros
    ∙ cut_twice w (first * 2 ^ n)
    ∙ ap (λ (k : ℕ). low (bits_in w) (low 64 k * 2 ^ n)) (nothing_below (2 ^ n) a)
    ∙ cut_factor w a (2 ^ n)

lowered_as : (w n a : ℕ) → n ≤ w → a / 2 ^ n % 2 ^ (w - n) ≡ a % 2 ^ w / 2 ^ n
lowered_as w n a h =
    let split : w - n + n ≡ w = omega (arith, h) in
    sym (subst (λ (k : ℕ). a % 2 ^ k / 2 ^ n ≡ a / 2 ^ n % 2 ^ (w - n)) split
    (ap (λ (k : ℕ). k / 2 ^ n) (mod-pow-add a (w - n) n) ∙ div-mul-add (a / 2 ^ n % 2 ^ (w - n)) (2 ^ n) (a % 2 ^ n) (mod_below a (2 ^ n) (pow_pos n))))

-- the bits from n on, among w
pub lowered_is : (w : Width) (a n : ℕ) → n < bits_in w → bits_from a n (bits_in w - n) ≡ low (bits_in w) a / 2 ^ n
lowered_is w a n h = lowered_as (bits_in w) n a (omega (arith, h))

-- the count of a shift: as many low bits as tell the bits of a word
pub count_is : (w : Width) (b : ℕ) → low 64 (bits_from b 0 (count_bits w)) % 64 ≡ low (bits_in w) b % bits_in w
count_is Bits32 b = omega arith
count_is Bits64 b = omega arith

-- shifts of what is cut to w bits
pub shifted_left : (w : Width) (signed : Bool) (a b : ℕ) → bits_from (arithmetic Lsh false 64 (low 64 (low (bits_in w) a)) (low 64 (bits_from b 0 (count_bits w)))) 0 (bits_in w)
    ≡ arithmetic Lsh signed (bits_in w) (low (bits_in w) a) (low (bits_in w) b)
shifted_left w signed a b =
    let x = low (bits_in w) a in
    from_zero _ (bits_in w)
    ∙ cut_twice w _
    ∙ ap (λ (k : ℕ). low (bits_in w) (k * 2 ^ (low 64 (bits_from b 0 (count_bits w)) % 64))) (low_same 64 x (widened w x (low_below (bits_in w) a)))
    ∙ ap (λ (k : ℕ). low (bits_in w) (x * 2 ^ k)) (count_is w b)

div_below : (a m k : ℕ) → a < k → a / m < k
div_below a m k h = omega (arith, h, div-le_self a m)

pub shifted_right : (w : Width) (signed : Bool) (a b : ℕ) → bits_from (arithmetic Rsh false 64 (low 64 (low (bits_in w) a)) (low 64 (bits_from b 0 (count_bits w)))) 0 (bits_in w)
    ≡ arithmetic Rsh signed (bits_in w) (low (bits_in w) a) (low (bits_in w) b)
shifted_right w signed a b =
    let x = low (bits_in w) a in
    from_zero _ (bits_in w)
    ∙ ap (λ (k : ℕ). low (bits_in w) (k / 2 ^ (low 64 (bits_from b 0 (count_bits w)) % 64))) (low_same 64 x (widened w x (low_below (bits_in w) a)))
    ∙ ap (λ (k : ℕ). low (bits_in w) (x / 2 ^ k)) (count_is w b)
    ∙ low_same (bits_in w) _ (div_below x _ (2 ^ bits_in w) (low_below (bits_in w) a))
