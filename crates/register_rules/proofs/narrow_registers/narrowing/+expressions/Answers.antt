use Rattle.std.proofs.Common.{◌-◌, ◌∙◌, sym, ap, arith}
use Rattle.net_core.specs.declared.tree.Net.{Net}
use Rattle.net_core.specs.declared.tree.Expr.TheViews.{sized-More}
use Rattle.net_core.specs.declared.tree.Parts.{size-Parts}
use Rattle.net_core.specs.View.{tree_of, trees_of}
use Rattle.net_core.specs.Value.{value, concatenated, concatenated_parts}
use Rattle.register_rules.specs.NarrowRegisters.Narrow.{widened}
use Rattle.register_rules.proofs.NarrowRegisters.ValueLemmas.{zeros_before, widened_twice, widened_before}
use Rattle.register_rules.proofs.narrow_registers.narrowing.+expressions.Goals as goal

pub narrow_parts-loop-left-preserved : goal.narrow_parts-loop-left-preserved
narrow_parts-loop-left-preserved t c =
    let rest = c.in-More.more in
    let word = c.in-Const.word in
    let z = sized-More Net c.in-More.first rest in
    let whole = ap (size-Parts Net) c.in-More.is in
    let part = ap (size-Parts Net) c.deref-left.ensures in
    record {
      done = λ v x h. c.loop-left.invariant.done v x (
          ap (λ l. concatenated_parts v (trees_of l)) c.in-More.is ∙ ap (λ e. concatenated (value v (tree_of e)) (concatenated_parts v (trees_of rest.value))) c.in-Const.is
          ∙ zeros_before word _ _ c.if-word-eq0.true (sym (ap (λ l. concatenated_parts v (trees_of l)) c.deref-left.ensures) ∙ h)
          ∙ widened_twice word.width (c.loop-left.rest - word.width) c.loop-left.rest x (omega arith)
          );
      depth = omega (arith, z, whole, part, c.loop-left.invariant.depth);
    }

pub narrow_parts-returns-in_ok-a-in-Last : goal.narrow_parts-returns-in_ok-a-in-Last
narrow_parts-returns-in_ok-a-in-Last t c v u known = c.loop-left.invariant.done v _ (ap (λ l. concatenated_parts v (trees_of l)) c.in-Last.is ∙ c.in_ok-a-in-Last.ensures v u known)

pub narrow_parts-returns-in_ok-new-in-More-left : goal.narrow_parts-returns-in_ok-new-in-More-left
narrow_parts-returns-in_ok-new-in-More-left t c v u known =
    let a = c.in_ok-a-in-More-left.a in
    let more = sym (ap (λ l. concatenated_parts v (trees_of l)) c.deref.ensures) ∙ c.in_ok-more-in-More-left.ensures v u known in
    let made = ap (λ l. concatenated_parts u (trees_of l)) c.in_ok-new-in-More-left.ensures.ok ∙ ap (λ l. concatenated (value u (tree_of a)) (concatenated_parts u (trees_of l))) c.in_ok-more-in-More-left-2.ensures.ok in
    c.loop-left.invariant.done v _ (
    ap (λ l. concatenated_parts v (trees_of l)) c.in-More-left.is
    ∙ widened_before c.loop-left.rest (value v (tree_of c.in-More-left.a)) (value u (tree_of a)) _ _ (c.in_ok-a-in-More-left.ensures v u known) more
    ∙ ap (widened c.loop-left.rest) (sym made)
    )
