use Rattle.std.proofs.Common.{◌∙◌, sym, ap, map}
use Rattle.net_core.specs.View.{tree_of, trees_of}
use Rattle.net_core.specs.Value.{value, concatenated, concatenated_parts}
use Rattle.net_optimize.specs.Lists.{all_parts}
use Rattle.net_optimize.proofs.PartLemmas.{part_step}
use Rattle.net_optimize.proofs.concatenation.with_copies.Goals as goal

pub loop-left-preserved : goal.loop-left-preserved
loop-left-preserved c v =
    part_step _ _ (value v (tree_of c.in_ok-part.part)) _ (concatenated_parts v (trees_of c.loop-left.left.now)) _ (c.in_ok-all.ensures v)
    (ap (λ l. concatenated_parts v (trees_of l)) c.in-More.is ∙ sym (ap (λ t. concatenated (value v t) (concatenated_parts v (trees_of c.in-More.more.value))) c.in_ok-part.ensures)
    ∙ sym (ap (λ l. concatenated (value v (tree_of c.in_ok-part.part)) (concatenated_parts v (trees_of l))) c.deref-left.ensures)) (c.loop-left.invariant v)

pub returns : goal.returns
returns c v =
    c.in_ok-whole-in-Last.ensures v
    ∙ ap (concatenated (all_parts v (map tree_of c.loop-left.all.items))) (ap (value v) c.in_ok-last-in-Last.ensures ∙ sym (ap (λ l. concatenated_parts v (trees_of l)) c.in-Last.is))
    ∙ c.loop-left.invariant v
