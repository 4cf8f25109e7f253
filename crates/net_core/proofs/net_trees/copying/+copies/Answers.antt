use Rattle.std.proofs.Common.{◌∙◌, sym, ap, List, map, arith}
use Rattle.net_core.specs.declared.tree.Net.{Net}
use Rattle.net_core.specs.declared.tree.Expr.{Expr}
use Rattle.net_core.specs.declared.tree.Expr.TheViews.{sized-More}
use Rattle.net_core.specs.declared.tree.Parts.{size-Parts}
use Rattle.net_core.specs.Nets.{TMore}
use Rattle.net_core.specs.View.{tree_of, trees_of}
use Rattle.net_core.specs.Chains.{parts_before}
use Rattle.net_core.proofs.ChainLaws.{parts_one_more}
use Rattle.net_core.proofs.net_trees.copying.+copies.Goals as goal

pub copied_parts-loop-left-preserved : goal.copied_parts-loop-left-preserved
copied_parts-loop-left-preserved t c =
    let z = sized-More Net c.in-More.part c.in-More.more in
    let whole = ap (size-Parts Net) c.in-More.is in
    let part = ap (size-Parts Net) c.deref-left.ensures in
    let rest = trees_of c.deref-left.result.now in
    record {
      done = ap (λ (xs : List (Expr Net)). parts_before (map tree_of xs) rest) c.in_ok-push.ensures.items
          ∙ parts_one_more c.loop-left.prefix.items c.in_ok-copied.field-0 rest
          ∙ ap (λ x. parts_before (map tree_of c.loop-left.prefix.items) (TMore x rest)) c.in_ok-copied.ensures
          ∙ ap (λ l. parts_before (map tree_of c.loop-left.prefix.items) (TMore (tree_of c.in-More.part) (trees_of l))) c.deref-left.ensures
          ∙ sym (ap (λ l. parts_before (map tree_of c.loop-left.prefix.items) (trees_of l)) c.in-More.is) ∙ c.loop-left.invariant.done;
      depth = omega (arith, z, whole, part, c.loop-left.invariant.depth);
    }
