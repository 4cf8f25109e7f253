-- Operations on low bits.
use Rattle.std.specs.Prelude.{bit_and, bit_or, bit_xor}
use Rattle.std.proofs.Common.{◌≡◌, ℕ, ◌+◌, ◌-◌, ◌*◌, ◌/◌, ◌%◌, ◌^◌, ◌<◌, ◌≤◌, [], ◌∷◌, Some, refl, sym, ◌∙◌, ap, arith}
use Rattle.std.proofs.lemmas.Nat.{and_mod, or_mod, xor_mod, mul-mod, div-add-mod', mod_below, pow_pos, div_below, pow-add}
use Rattle.std.proofs.Math.Nat.{div-one, add-mul-mod_self_right}
use Rattle.block_core.proofs.list_laws_laws.NumberLaws.{add-mod}
use Rattle.net_core.specs.declared.tree.Op.{Op}
use Rattle.net_core.specs.declared.tree.Op.TheVariants as net
use Rattle.net_core.specs.Value.{apply, word}
use Rattle.net_core.specs.Width.{op_width}
use Rattle.net_core.proofs.LowBitsLaws.{low_low}
use Rattle.cell_core.specs.xdp_machine.State.{PacketIn}
use Rattle.cell_core.specs.declared.operator.Operator.{Operator}
use Rattle.cell_core.specs.declared.operator.Operator.TheVariants.{And, Or, Xor, Difference, Add, Sub, Mul}
use Rattle.cell_core.specs.Cells.{number, bits_from}
use Rattle.net_core.specs.ProductRules.Products.{is_product}
use Rattle.cell_nets.specs.Computing.{makes_product}
use Rattle.cell_nets.specs.Narrow.{narrow_op}
use Rattle.cell_nets.proofs.ExpressionPartLaws.{same_is}

pub from_zero : (n w : ℕ) → bits_from n 0 w ≡ n % 2 ^ w
from_zero n w = ap (λ (k : ℕ). k % 2 ^ w) (div-one n)

-- an operation that goes bit by bit
bitwise_cut : (f : ℕ → ℕ → ℕ) → ((a b k : ℕ) → f a b % 2 ^ k ≡ f (a % 2 ^ k) (b % 2 ^ k)) → (w x y : ℕ) → w ≤ 64 → f (x % 2 ^ w) (y % 2 ^ w) ≡ f (x % 2 ^ 64) (y % 2 ^ 64) % 2 ^ w
bitwise_cut f law w x y most = sym (law (x % 2 ^ 64) (y % 2 ^ 64) w ∙ ap (λ k. f k (y % 2 ^ 64 % 2 ^ w)) (low_low x w most) ∙ ap (f (x % 2 ^ w)) (low_low y w most))

product_cut : (w x y : ℕ) → w ≤ 64 → (x % 2 ^ w) * (y % 2 ^ w) % 2 ^ w ≡ (x % 2 ^ 64) * (y % 2 ^ 64) % 2 ^ 64 % 2 ^ w
product_cut w x y most =
    sym (low_low _ w most ∙ mul-mod (x % 2 ^ 64) (y % 2 ^ 64) (2 ^ w) ∙ ap (λ k. k * (y % 2 ^ 64 % 2 ^ w) % 2 ^ w) (low_low x w most) ∙ ap (λ k. (x % 2 ^ w) * k % 2 ^ w) (low_low y w most))

sum_cut : (w x y : ℕ) → w ≤ 64 → (x % 2 ^ w + y % 2 ^ w) % 2 ^ w ≡ (x % 2 ^ 64 + y % 2 ^ 64) % 2 ^ 64 % 2 ^ w
sum_cut w x y most =
    sym (low_low _ w most ∙ add-mod (x % 2 ^ 64) (y % 2 ^ 64) (2 ^ w) ∙ ap (λ k. (k + y % 2 ^ 64 % 2 ^ w) % 2 ^ w) (low_low x w most) ∙ ap (λ k. (x % 2 ^ w + k) % 2 ^ w) (low_low y w most))

-- a difference of numbers below so many times m, that wraps there or at m
difference_of : (a b k m : ℕ) → 0 < m → b < k * m → (a + (k * m - b)) % m ≡ (a % m + m - b % m) % m
difference_of a b k m some below =
    let less : b / m < k = div_below b m k some below in
    let r : k - 1 - b / m + (1 + b / m) ≡ k = omega arith in
    let e : k * m ≡ (k - 1 - b / m) * m + m + b / m * m = ap (λ n. n * m) (sym r) ∙ omega arith in
    let rest : b % m < m = mod_below b m some in
    let d : a + (k * m - b) ≡ a % m + m - b % m + (a / m + (k - 1 - b / m)) * m = omega (arith, e, div-add-mod' a m, div-add-mod' b m) in
    ap (λ n. n % m) d ∙ add-mul-mod_self_right (a % m + m - b % m) (a / m + (k - 1 - b / m)) m

difference_cut : (w x y : ℕ) → w ≤ 64 → (x % 2 ^ w + 2 ^ w - y % 2 ^ w) % 2 ^ w ≡ (x % 2 ^ 64 + (2 ^ 64 - y % 2 ^ 64)) % 2 ^ 64 % 2 ^ w
difference_cut w x y most =
    let e : 64 - w + w ≡ 64 = omega arith in
    let p : 2 ^ 64 ≡ 2 ^ (64 - w) * 2 ^ w = ap (λ k. 2 ^ k) (sym e) ∙ pow-add 2 (64 - w) w in
    let below : y % 2 ^ 64 < 2 ^ (64 - w) * 2 ^ w = omega (arith, p) in
    sym (low_low _ w most ∙ ap (λ k. (x % 2 ^ 64 + (k - y % 2 ^ 64)) % 2 ^ w) p ∙ difference_of (x % 2 ^ 64) (y % 2 ^ 64) (2 ^ (64 - w)) (2 ^ w) (pow_pos w) below
    ∙ ap (λ k. (k + 2 ^ w - y % 2 ^ 64 % 2 ^ w) % 2 ^ w) (low_low x w most) ∙ ap (λ k. (x % 2 ^ w + 2 ^ w - k) % 2 ^ w) (low_low y w most))

-- the same, of what is taken from bit 0 on
from_low : (f : ℕ → ℕ → ℕ) (w x y n : ℕ) → f (x % 2 ^ w) (y % 2 ^ w) ≡ n % 2 ^ w → word w (f (bits_from x 0 w) (bits_from y 0 w)) ≡ word w (bits_from n 0 w)
from_low f w x y n e = ap (word w) (ap (λ k. f k (bits_from y 0 w)) (from_zero x w) ∙ ap (f (x % 2 ^ w)) (from_zero y w) ∙ e ∙ sym (from_zero n w))

pub narrow_is :
    (packet : PacketIn) (o : Operator) (p : Op) (w x y : ℕ) → narrow_op o ≡ Some p → w ≤ 64
    → apply p (word w (bits_from x 0 w)) (word w (bits_from y 0 w)) ≡ word w (bits_from (number packet o (x ∷ y ∷ [])) 0 w)
narrow_is packet And net.And w x y e most = from_low bit_and w x y _ (bitwise_cut bit_and and_mod w x y most)
narrow_is packet Or net.Or w x y e most = from_low bit_or w x y _ (bitwise_cut bit_or or_mod w x y most)
narrow_is packet Xor net.Xor w x y e most = from_low bit_xor w x y _ (bitwise_cut bit_xor xor_mod w x y most)
narrow_is packet Difference net.Sub w x y e most = from_low (λ p q. (p + 2 ^ w - q) % 2 ^ w) w x y _ (difference_cut w x y most)
narrow_is packet Add net.Add w x y e most = from_low (λ p q. (p + q) % 2 ^ w) w x y _ (sum_cut w x y most)
narrow_is packet Sub net.Sub w x y e most = from_low (λ p q. (p + 2 ^ w - q) % 2 ^ w) w x y _ (difference_cut w x y most)
narrow_is packet Mul net.Mul w x y e most = from_low (λ p q. p * q % 2 ^ w) w x y _ (product_cut w x y most)
narrow_is packet o p w x y e most = cc

pub narrow_width : (o : Operator) (p : Op) (w : ℕ) → narrow_op o ≡ Some p → op_width p w w ≡ w
narrow_width And net.And w e = same_is w
narrow_width Or net.Or w e = same_is w
narrow_width Xor net.Xor w e = same_is w
narrow_width Difference net.Sub w e = same_is w
narrow_width Add net.Add w e = same_is w
narrow_width Sub net.Sub w e = same_is w
narrow_width Mul net.Mul w e = same_is w
narrow_width o p w e = cc

pub narrow_product : (o : Operator) (p : Op) → narrow_op o ≡ Some p → is_product p ≡ makes_product o
narrow_product And net.And e = refl
narrow_product Or net.Or e = refl
narrow_product Xor net.Xor e = refl
narrow_product Difference net.Sub e = refl
narrow_product Add net.Add e = refl
narrow_product Sub net.Sub e = refl
narrow_product Mul net.Mul e = refl
narrow_product o p e = cc

pub bits_small : (n from w : ℕ) → bits_from n from w < 2 ^ w
bits_small n from w = mod_below (n / 2 ^ from) (2 ^ w) (pow_pos w)
