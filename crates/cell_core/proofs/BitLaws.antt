-- Bits of numbers from the lowest on.
use Rattle.std.specs.Prelude.{if◌then◌else◌}
use Rattle.std.proofs.Common.{◌≡◌, ℕ, ◌%◌, ◌^◌, ◌<◌, Bool, true, false, ◌||◌, refl, ◌∙◌, ap}
use Rattle.std.proofs.Math.Nat.{div-one, mod-eq_of_lt}
use Rattle.cell_core.specs.Cells.{bit, bits_from}

pub small_bits : (n w : ℕ) → n < 2 ^ w → bits_from n 0 w ≡ n
small_bits n w h = ap (λ (k : ℕ). k % 2 ^ w) (div-one n) ∙ mod-eq_of_lt {n = n} {m = 2 ^ w} h

pub bit_bits : (b : Bool) → bits_from (bit b) 0 1 ≡ bit b
bit_bits true = refl
bit_bits false = refl

pub or_chosen : (s t : Bool) (x : ℕ) → x ≡ bit t → bits_from (if s then 1 else x) 0 1 ≡ bit (s || t)
or_chosen true t x e = refl
or_chosen false t x e = ap (λ n. bits_from n 0 1) e ∙ bit_bits t
