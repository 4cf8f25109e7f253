-- Operations on words of one bit.
use Rattle.std.specs.Prelude.{◌≡◌, Bool, true, false, not, ◌&&◌, ◌||◌}
use Rattle.std.proofs.Common.{refl}
use Rattle.net_core.specs.declared.tree.Op.TheVariants.{And, Or}
use Rattle.net_core.specs.declared.tree.UnaryOp.TheVariants.{Not}
use Rattle.net_core.specs.Value.{bit, apply, apply_unary}

pub or_bits : (a b : Bool) → apply Or (bit a) (bit b) ≡ bit (a || b)
or_bits true true = refl
or_bits true false = refl
or_bits false true = refl
or_bits false false = refl

pub and_bits : (a b : Bool) → apply And (bit a) (bit b) ≡ bit (a && b)
and_bits true true = refl
and_bits true false = refl
and_bits false true = refl
and_bits false false = refl

pub not_bit : (b : Bool) → apply_unary Not (bit b) ≡ bit (not b)
not_bit true = refl
not_bit false = refl
