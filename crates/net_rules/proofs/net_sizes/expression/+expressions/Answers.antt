use Rattle.std.proofs.Common.{◌≡◌, ◌+◌, ◌<◌, ap, arith, subst, sym}
use Rattle.net_core.specs.declared.tree.Net.{Net}
use Rattle.net_core.specs.declared.tree.Expr.TheViews.{sized-More}
use Rattle.net_core.specs.declared.tree.Parts.{size-Parts}
use Rattle.net_core.specs.View.{tree_of, trees_of}
use Rattle.net_core.specs.Value.{value, concatenated_parts}
use Rattle.net_rules.specs.NetSizes.Fitting.{Fits}
use Rattle.net_rules.proofs.NetSizes.FittingLaws.{concatenated_fits}
use Rattle.net_rules.proofs.net_sizes.expression.+expressions.Goals as goal

pub parts_size-loop-left-preserved : goal.parts_size-loop-left-preserved
parts_size-loop-left-preserved t c = record {
  fits = λ v n known p rest.
      let first = c.expr_size-in-More.result in
      let some : 0 < c.joined-sum.result = omega (arith, c.if-sum-eq0.false) in
      let sum = c.joined-sum.ensures.sum some in
      let more = subst (λ l. Fits n (concatenated_parts v (trees_of l))) c.deref-left.ensures rest in
      let both = concatenated_fits first n (value v (tree_of c.in-More.a)) (concatenated_parts v (trees_of c.in-More.more.value)) (c.joined-sum.ensures.known some) p (c.expr_size-in-More.ensures v known) more in
      let whole = subst (λ l. Fits (first + n) (concatenated_parts v (trees_of l))) (sym c.in-More.is) both in
      let is : c.loop-left.sum + (first + n) ≡ c.joined-sum.result + n = omega (arith, sum) in
      subst (λ k. Fits k (concatenated_parts v (trees_of c.args.parts.now))) is (c.loop-left.invariant.fits v (first + n) known (omega arith) whole);
  depth = omega (arith, sized-More Net c.in-More.a c.in-More.more, ap (size-Parts Net) c.in-More.is, ap (size-Parts Net) c.deref-left.ensures, c.loop-left.invariant.depth);
}
