-- Numbers of a width in 64 bits.
use Rattle.std.proofs.Common.{◌≡◌, ℕ, ◌+◌, ◌-◌, ◌*◌, ◌/◌, ◌%◌, ◌^◌, ◌<◌, ◌≤◌, sym, ap, ◌∙◌, arith}
use Rattle.std.proofs.lemmas.Nat.{pow_pos, pow-add, shl_whole, mul-add-lt}
use Rattle.std.proofs.lemmas.Nat.Bits.{ones_shr}
use Rattle.std.proofs.Math.Nat.{add-mul-mod_self_right, mul_comm}
use Rattle.std.proofs.Math.Pow.{mod-mod-pow}

pub ones_low : (width : ℕ) → 0 < width → width ≤ 64 → (2 ^ 64 - 1) / 2 ^ (64 - width) ≡ 2 ^ width - 1
ones_low width some most = let le : 64 - width ≤ 64 = omega arith in let e : 64 - (64 - width) ≡ width = omega arith in ones_shr 64 (64 - width) le ∙ ap (λ k. 2 ^ k - 1) e

pub low_low : (n width : ℕ) → width ≤ 64 → n % 2 ^ 64 % 2 ^ width ≡ n % 2 ^ width
low_low n width most =
    let e : 64 - width + width ≡ 64 = omega arith in
    ap (λ k. n % 2 ^ k % 2 ^ width) (sym e) ∙ mod-mod-pow n (64 - width) width

one_more : (k m : ℕ) → 0 < k → k * m ≡ m + (k - 1) * m
one_more k m h = let e : k ≡ 1 + (k - 1) = omega arith in ap (λ n. n * m) e ∙ omega arith

-- a difference that wraps at 64 bits, and one that wraps at the width
pub low_difference : (a b width : ℕ) → width ≤ 64 → b < 2 ^ width → (a + (2 ^ 64 - b)) % 2 ^ 64 % 2 ^ width ≡ (a + 2 ^ width - b) % 2 ^ width
low_difference a b width most small =
    let e : 64 - width + width ≡ 64 = omega arith in
    let p : 2 ^ 64 ≡ 2 ^ (64 - width) * 2 ^ width = ap (λ k. 2 ^ k) (sym e) ∙ pow-add 2 (64 - width) width in
    let one : 0 < 2 ^ (64 - width) = pow_pos (64 - width) in
    let q : 2 ^ (64 - width) * 2 ^ width ≡ 2 ^ width + (2 ^ (64 - width) - 1) * 2 ^ width = one_more (2 ^ (64 - width)) (2 ^ width) one in
    let d : a + (2 ^ 64 - b) ≡ a + 2 ^ width - b + (2 ^ (64 - width) - 1) * 2 ^ width = omega (arith, p, q) in
    low_low (a + (2 ^ 64 - b)) width most ∙ ap (λ n. n % 2 ^ width) d ∙ add-mul-mod_self_right (a + 2 ^ width - b) (2 ^ (64 - width) - 1) (2 ^ width)

pub shifted_whole : (a left right : ℕ) → a < 2 ^ left → left + right ≤ 64 → a * 2 ^ right % 2 ^ 64 ≡ a * 2 ^ right
shifted_whole a left right small fit = shl_whole a left right 64 small fit

pub concatenated_small : (a b left right : ℕ) → a < 2 ^ left → b < 2 ^ right → a * 2 ^ right + b < 2 ^ (left + right)
concatenated_small a b left right small small' = rw (pow-add, mul_comm (2 ^ left) (2 ^ right)) (mul-add-lt a (2 ^ right) b (2 ^ left) small small')
