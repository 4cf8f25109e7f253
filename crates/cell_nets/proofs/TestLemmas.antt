-- Comparisons.
use Rattle.std.specs.Prelude.{◌==◌, nat_lt, nat_le}
use Rattle.std.proofs.Common.{◌≡◌, ℕ, ◌%◌, ◌^◌, ◌<◌, ◌≤◌, Bool, true, false, [], ◌∷◌, Some, refl, sym, ◌∙◌, ap, arith}
use Rattle.std.proofs.Math.Nat.{mod-eq_of_lt}
use Rattle.std.proofs.Math.Pow.{pow_mono}
use Rattle.net_core.specs.declared.tree.Op.{Op}
use Rattle.net_core.specs.declared.tree.Op.TheVariants as net
use Rattle.net_core.specs.Value.{apply, word}
use Rattle.net_core.specs.Width.{op_width}
use Rattle.cell_core.specs.xdp_machine.Arithmetic.{low}
use Rattle.cell_core.specs.xdp_machine.State.{PacketIn}
use Rattle.cell_core.specs.declared.operator.Operator.{Operator}
use Rattle.cell_core.specs.declared.operator.Operator.TheVariants.{Equal, Less, LessOrEqual}
use Rattle.cell_core.specs.Cells.{number, bit, bits_from}
use Rattle.cell_nets.specs.Narrow.{test_op}
use Rattle.net_core.specs.ProductRules.Products.{is_product}
use Rattle.cell_nets.specs.Computing.{makes_product}
use Rattle.cell_nets.proofs.ExpressionPartLaws.{test_is}
use Rattle.cell_nets.proofs.NarrowLaws.{from_zero}

pub test_width_is : (o : Operator) (p : Op) (w : ℕ) → 0 < w → test_op o ≡ Some p → op_width p w w ≡ 1
test_width_is Equal net.Equal w some e = test_is w some
test_width_is Less net.Less w some e = test_is w some
test_width_is LessOrEqual net.LessEqual w some e = test_is w some
test_width_is o p w some e = cc

-- a comparison gives one bit
pub test_bit : (o : Operator) (p : Op) (m x y : ℕ) → test_op o ≡ Some p → apply p (word m x) (word m y) ≡ word 1 (apply p (word m x) (word m y)).value
test_bit Equal net.Equal m x y e = refl
test_bit Less net.Less m x y e = refl
test_bit LessOrEqual net.LessEqual m x y e = refl
test_bit o p m x y e = cc

small_same : (x m : ℕ) → m ≤ 64 → x < 2 ^ m → (bits_from x 0 m ≡ x) × (x % 2 ^ 64 ≡ x)
small_same x m most small =
    let less : x < 2 ^ 64 = omega (arith, pow_mono {i = m} {j = 64} most) in
    (from_zero x m ∙ mod-eq_of_lt {n = x} {m = 2 ^ m} small, mod-eq_of_lt {n = x} {m = 2 ^ 64} less)

pub bit_low : (b : Bool) (w : ℕ) → 0 < w → bit b ≡ bits_from (bit b) 0 w
bit_low b w some = let less : bit b < 2 ^ w = omega (arith, pow_mono {i = 1} {j = w} some, bit_small b) in sym (from_zero (bit b) w ∙ mod-eq_of_lt {n = bit b} {m = 2 ^ w} less)
  where
    bit_small : (b : Bool) → bit b < 2
    bit_small true = omega arith
    bit_small false = omega arith

pub test_is_number :
    (packet : PacketIn) (o : Operator) (p : Op) (m w x y : ℕ) → test_op o ≡ Some p → m ≤ 64 → 0 < w → x < 2 ^ m → y < 2 ^ m
    → (apply p (word m (bits_from x 0 m)) (word m (bits_from y 0 m))).value ≡ bits_from (number packet o (x ∷ y ∷ [])) 0 w
test_is_number packet Equal net.Equal m w x y e most some small less = ap (λ k. bit (k == bits_from y 0 m)) ((small_same x m most small).0 ∙ sym (small_same x m most small).1) ∙ ap (λ k. bit (low 64 x == k)) ((small_same y m most less).0 ∙ sym (small_same y m most less).1) ∙ bit_low _ w some
test_is_number packet Less net.Less m w x y e most some small less = ap (λ k. bit (nat_lt k (bits_from y 0 m))) ((small_same x m most small).0 ∙ sym (small_same x m most small).1) ∙ ap (λ k. bit (nat_lt (low 64 x) k)) ((small_same y m most less).0 ∙ sym (small_same y m most less).1) ∙ bit_low _ w some
test_is_number packet LessOrEqual net.LessEqual m w x y e most some small less = ap (λ k. bit (nat_le k (bits_from y 0 m))) ((small_same x m most small).0 ∙ sym (small_same x m most small).1) ∙ ap (λ k. bit (nat_le (low 64 x) k)) ((small_same y m most less).0 ∙ sym (small_same y m most less).1) ∙ bit_low _ w some
test_is_number packet o p m w x y e most some small less = cc

pub test_plain : (o : Operator) (p : Op) → test_op o ≡ Some p → is_product p ≡ false
test_plain Equal net.Equal e = refl
test_plain Less net.Less e = refl
test_plain LessOrEqual net.LessEqual e = refl
test_plain o p e = cc

pub test_product : (o : Operator) (p : Op) → test_op o ≡ Some p → makes_product o ≡ false
test_product Equal net.Equal e = refl
test_product Less net.Less e = refl
test_product LessOrEqual net.LessEqual e = refl
test_product o p e = cc
