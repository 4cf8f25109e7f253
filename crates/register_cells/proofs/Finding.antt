-- Numbers that cells hold.
use Rattle.std.proofs.Common.{◌≡◌, ℕ, ◌+◌, ◌-◌, ◌^◌, ◌<◌, ◌∙◌, ap}
use Rattle.std.proofs.lemmas.Nat.{mod_below, pow_pos}
use Rattle.std.proofs.Math.Nat.{mod-eq_of_lt}
use Rattle.cell_core.specs.xdp_machine.Arithmetic.{low}

pub low_same : (w n : ℕ) → n < 2 ^ w → low w n ≡ n
low_same w n h = mod-eq_of_lt {n = n} {m = 2 ^ w} h

pub low_low : (n : ℕ) → low 64 (low 64 n) ≡ low 64 n
low_low n = low_same 64 (low 64 n) (mod_below n (2 ^ 64) (pow_pos 64))

pub low_less : (x y a b : ℕ) → a ≡ low 64 x → b ≡ low 64 y → low 64 (low 64 a + (2 ^ 64 - low 64 b)) ≡ low 64 (low 64 x + (2 ^ 64 - low 64 y))
low_less x y a b e f =
    ap (λ (n : ℕ). low 64 (low 64 n + (2 ^ 64 - low 64 b))) e ∙ ap (λ (n : ℕ). low 64 (low 64 (low 64 x) + (2 ^ 64 - low 64 n))) f
    ∙ ap (λ (n : ℕ). low 64 (n + (2 ^ 64 - low 64 (low 64 y)))) (low_low x) ∙ ap (λ (n : ℕ). low 64 (low 64 x + (2 ^ 64 - n))) (low_low y)
