use Rattle.std.proofs.Common.{◌≡◌, ℕ, ◌⊎◌, inl, inr, sym, subst}
use Rattle.net_core.specs.declared.tree.Word.{Word}
use Rattle.net_core.specs.declared.tree.Op.{Op}
use Rattle.net_core.specs.declared.tree.Op.TheVariants.{Add, Sub, Mul, And, Or, Xor, ShiftLeft, ShiftRight}
use Rattle.net_core.specs.Value.{apply}
use Rattle.net_rules.specs.NetSizes.Fitting.{Fits}
use Rattle.net_rules.proofs.NetSizes.FittingLaws.{known_fits, sum_fits, difference_fits, product_fits, and_fits, left_fits, right_fits, or_fits, xor_fits}
use Rattle.net_rules.proofs.net_sizes.expression.binary_size.Goals as goal

module _ (n : ℕ) (op : Op) (x y : Word) (f : Fits n x) where
  by : (o : Op) → op ≡ o → Fits n (apply o x y) → Fits n (apply op x y)
  by o e h = subst (λ p. Fits n (apply p x y)) (sym e) h

  as_left : (op ≡ Add) ⊎ ((op ≡ Sub) ⊎ ((op ≡ Mul) ⊎ ((op ≡ And) ⊎ ((op ≡ ShiftLeft) ⊎ (op ≡ ShiftRight))))) → Fits n (apply op x y)
  as_left (inl e) = by Add e (sum_fits n x y f)
  as_left (inr (inl e)) = by Sub e (difference_fits n x y f)
  as_left (inr (inr (inl e))) = by Mul e (product_fits n x y f)
  as_left (inr (inr (inr (inl e)))) = by And e (and_fits n x y f)
  as_left (inr (inr (inr (inr (inl e))))) = by ShiftLeft e (left_fits n x y f)
  as_left (inr (inr (inr (inr (inr e))))) = by ShiftRight e (right_fits n x y f)

  as_both : Fits n y → (op ≡ Or) ⊎ (op ≡ Xor) → Fits n (apply op x y)
  as_both g (inl e) = by Or e (or_fits n x y f g)
  as_both g (inr e) = by Xor e (xor_fits n x y f g)

pub returns-in-Or : goal.returns-in-Or
returns-in-Or c x y f g =
    let n = c.common.result in
    let p = c.common.ensures in
    as_both n c.args.op x y (known_fits n c.args.a x p.left f) (known_fits n c.args.b y p.right g) c.in-Or.is

pub returns-in-Add : goal.returns-in-Add
returns-in-Add c x y f g = as_left c.args.a c.args.op x y f c.in-Add.is
