-- Words put together of bits.
use Rattle.std.proofs.Common.{◌≡◌, ℕ, ◌+◌, ◌-◌, ◌*◌, ◌/◌, ◌%◌, ◌^◌, ◌<◌, ◌≤◌, [], ◌∷◌, sym, ◌∙◌, ap, subst, arith}
use Rattle.std.proofs.lemmas.Nat.{pow_pos, pow-add, mul-add-lt, shr_below}
use Rattle.std.proofs.Math.Nat.{div-one, mod-eq_of_lt, mul-le-mul_left}
use Rattle.std.proofs.Math.Pow.{pow_mono}
use Rattle.hazard_core.specs.xdp_machine.State.{PacketIn}
use Rattle.hazard_core.specs.cell_core.declared.operator.Operator.TheVariants.{Join}
use Rattle.hazard_core.specs.cell_core.Cells.{number, bits_from, joined}
use Rattle.hazard_core.proofs.cell_core_laws.BitLaws.{small_bits}
use Rattle.overlay_net.specs.ValueNet.Words.{with_bits}

pub low_bits : (n w : ℕ) → bits_from n 0 w ≡ n % 2 ^ w
low_bits n w = ap (λ (k : ℕ). k % 2 ^ w) (div-one n)

-- one number above another
pub join_is : (x y b : ℕ) → x * 2 ^ b + y < 2 ^ 64 → joined b (x ∷ y ∷ []) ≡ x * 2 ^ b + y
join_is x y b small =
    let some : 1 ≤ 2 ^ b = let k = pow_pos b in omega arith in
    let least : x * 1 ≤ x * 2 ^ b = mul-le-mul_left x some in
    let one : x < 2 ^ 64 = omega (arith, least) in
    let moved : x * 2 ^ b < 2 ^ 64 = omega arith in
    let alone : 0 * 2 ^ b % 2 ^ 64 + x ≡ x = omega arith in
    let first : (0 * 2 ^ b % 2 ^ 64 + x) % 2 ^ 64 ≡ x = ap (λ k. k % 2 ^ 64) alone ∙ mod-eq_of_lt one in
    ap (λ k. (k * 2 ^ b % 2 ^ 64 + y) % 2 ^ 64) first ∙ ap (λ k. (k + y) % 2 ^ 64) (mod-eq_of_lt moved) ∙ mod-eq_of_lt small

pub join_bits : (packet : PacketIn) (x y b k w : ℕ) → w ≡ b + k → w ≤ 64 → x < 2 ^ k → y < 2 ^ b → bits_from (number packet (Join b) (x ∷ y ∷ [])) 0 w ≡ y + 2 ^ b * x
join_bits packet x y b k w e most high low =
    let p : 2 ^ w ≡ 2 ^ b * 2 ^ k = ap (λ n. 2 ^ n) e ∙ pow-add 2 b k in
    let small : x * 2 ^ b + y < 2 ^ w = subst (λ n. x * 2 ^ b + y < n) (sym p) (mul-add-lt x (2 ^ b) y (2 ^ k) high low) in
    let wide : x * 2 ^ b + y < 2 ^ 64 = omega (arith, small, pow_mono {i = w} {j = 64} most) in
    ap (λ n. bits_from n 0 w) (join_is x y b wide) ∙ small_bits (x * 2 ^ b + y) w small ∙ omega arith

-- all bits from one on
pub high_bits : (n from : ℕ) → from ≤ 64 → n < 2 ^ 64 → bits_from n from (64 - from) ≡ n / 2 ^ from
high_bits n from most small = let e : 64 ≡ 64 - from + from = omega arith in mod-eq_of_lt (shr_below n (64 - from) from (subst (λ k. n < 2 ^ k) e small))

pub high_below : (n from : ℕ) → from ≤ 64 → n < 2 ^ 64 → n / 2 ^ from < 2 ^ (64 - from)
high_below n from most small = let e : 64 ≡ 64 - from + from = omega arith in shr_below n (64 - from) from (subst (λ k. n < 2 ^ k) e small)

-- three parts
pub parts_are : (old new from width x y z : ℕ) → x ≡ bits_from new 0 width → y ≡ old % 2 ^ from + 2 ^ from * x → z ≡ y + 2 ^ (from + width) * (old / 2 ^ (from + width)) → z ≡ with_bits old from width new
parts_are old new from width x y z ex ey ez =
    let q = old / 2 ^ (from + width) in
    let e : 2 ^ (from + width) * q ≡ 2 ^ from * (2 ^ width * q) = ap (λ k. k * q) (pow-add 2 from width) ∙ omega arith in
    ez ∙ ap (λ k. k + 2 ^ (from + width) * q) (ey ∙ ap (λ k. old % 2 ^ from + 2 ^ from * k) (ex ∙ low_bits new width)) ∙ ap (λ k. old % 2 ^ from + 2 ^ from * (new % 2 ^ width) + k) e ∙ omega arith

pub high_zero : (n : ℕ) → n < 2 ^ 64 → n / 2 ^ 64 ≡ 0
high_zero n small = let h : n / 2 ^ 64 < 1 = high_below n 64 (omega arith) small in omega arith

-- more bits than a number has
pub more_bits : (n w : ℕ) → w ≤ 64 → n < 2 ^ w → bits_from n 0 64 ≡ n
more_bits n w most small = small_bits n 64 (omega (arith, small, pow_mono {i = w} {j = 64} most))
