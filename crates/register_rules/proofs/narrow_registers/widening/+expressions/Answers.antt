use Rattle.std.proofs.Common.{◌∙◌, sym, ap, map, arith}
use Rattle.net_core.specs.declared.tree.Net.{Net}
use Rattle.net_core.specs.declared.tree.Expr.TheViews.{sized-More}
use Rattle.net_core.specs.declared.tree.Parts.{size-Parts}
use Rattle.net_core.specs.Nets.{TMore, TLast}
use Rattle.net_core.specs.View.{tree_of, trees_of}
use Rattle.net_core.specs.Value.{concatenated_parts}
use Rattle.net_core.proofs.PartLaws.{before, parts_before_value, parts_step}
use Rattle.register_rules.proofs.narrow_registers.widening.+expressions.Goals as goal

pub wide_parts-loop-left-preserved : goal.wide_parts-loop-left-preserved
wide_parts-loop-left-preserved t c =
    let z = sized-More Net c.in-More.part c.in-More.more in
    let whole = ap (size-Parts Net) c.in-More.is in
    let part = ap (size-Parts Net) c.deref-left.ensures in
    record {
      done = λ v u known. parts_step v u c.loop-left.prefix.items _ _ (tree_of c.in-More.part) (trees_of c.loop-left.left.now) _ _ c.in_ok-push.ensures.items (c.in_ok-wide.ensures v u known)
          (ap trees_of c.in-More.is ∙ sym (ap (λ l. TMore (tree_of c.in-More.part) (trees_of l)) c.deref-left.ensures)) (c.loop-left.invariant.done v u known);
      depth = omega (arith, z, whole, part, c.loop-left.invariant.depth);
    }

pub wide_parts-returns : goal.wide_parts-returns
wide_parts-returns t c v u known =
    let front = map tree_of c.loop-left.prefix.items in
    sym (c.loop-left.invariant.done v u known) ∙ ap (λ l. before u front (concatenated_parts v (trees_of l))) c.in-Last.is
    ∙ ap (before u front) (c.in_ok-last-in-Last.ensures v u known) ∙ sym (parts_before_value u front (TLast (tree_of c.in_ok-last-in-Last.last)))
    ∙ sym (ap (concatenated_parts u) c.in_ok-parts-in-Last.ensures)
