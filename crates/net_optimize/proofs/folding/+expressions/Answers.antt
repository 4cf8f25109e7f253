use Rattle.std.proofs.Common.{◌∙◌, sym, ap, map, arith}
use Rattle.net_core.specs.declared.tree.Net.{Net}
use Rattle.net_core.specs.declared.tree.Expr.TheViews.{sized-More}
use Rattle.net_core.specs.declared.tree.Parts.{size-Parts}
use Rattle.net_core.specs.View.{tree_of, trees_of}
use Rattle.net_core.specs.Value.{value, apply, apply_unary, conditional, concatenated, concatenated_parts}
use Rattle.net_rules.proofs.OkLaws.{ok_by}
use Rattle.net_optimize.specs.Lists.{all_parts}
use Rattle.net_optimize.proofs.PartLemmas.{part_step, nothing_before}
use Rattle.net_optimize.proofs.folding.+expressions.Goals as goal

pub folded_parts-loop-left-init : goal.folded_parts-loop-left-init
folded_parts-loop-left-init t c = record {
  done = λ v known.
      let all = concatenated_parts v (trees_of c.args.parts.now) in
      ap (λ xs. concatenated (all_parts v (map tree_of xs)) all) c.new-all.ensures.items ∙ nothing_before all;
  depth = omega arith;
}

pub folded_parts-loop-left-preserved : goal.folded_parts-loop-left-preserved
folded_parts-loop-left-preserved t c =
    let z = sized-More Net c.in-More.part c.in-More.more in
    let whole = ap (size-Parts Net) c.in-More.is in
    let part = ap (size-Parts Net) c.deref-left.ensures in
    record {
      done = λ v known. part_step _ _ (value v (tree_of c.in_ok-part.part)) _ (concatenated_parts v (trees_of c.loop-left.left.now)) _ (c.in_ok-all.ensures v)
          (ap (λ l. concatenated_parts v (trees_of l)) c.in-More.is ∙ sym (ap (λ w. concatenated w (concatenated_parts v (trees_of c.in-More.more.value))) (c.in_ok-part.ensures v known))
          ∙ sym (ap (λ l. concatenated (value v (tree_of c.in_ok-part.part)) (concatenated_parts v (trees_of l))) c.deref-left.ensures)) (c.loop-left.invariant.done v known);
      depth = omega (arith, z, whole, part, c.loop-left.invariant.depth);
    }

pub folded_parts-returns : goal.folded_parts-returns
folded_parts-returns t c v known =
    c.in_ok-whole-in-Last.ensures v
    ∙ ap (concatenated (all_parts v (map tree_of c.loop-left.all.items))) (c.in_ok-last-in-Last.ensures v known ∙ sym (ap (λ l. concatenated_parts v (trees_of l)) c.in-Last.is))
    ∙ c.loop-left.invariant.done v known

pub folded-returns-in-MemoryWord : goal.folded-returns-in-MemoryWord
folded-returns-in-MemoryWord t c v known =
    ok_by c.memory_word_of.result (λ r. value v (tree_of r)) _ _ (c.memory_word_of.ensures.value v _ (c.folded.ensures v known))
    (ap (λ e. v.memory_word c.in-MemoryWord.m (value v (tree_of e)).value) c.deref.ensures ∙ sym (ap (λ e. value v (tree_of e)) c.in-MemoryWord.is))

pub folded-returns-in-Unary : goal.folded-returns-in-Unary
folded-returns-in-Unary t c v known =
    ok_by c.prefixed_of.result (λ r. value v (tree_of r)) _ _
    (c.prefixed_of.ensures v
    (ok_by c.folded-in-Unary.result (λ r. value v (tree_of r)) _ _ (c.folded-in-Unary.ensures v known) (ap (λ e. value v (tree_of e)) (c.deref-in-Unary.ensures ∙ sym c.deref-in-Unary-2.ensures))))
    (ap (λ e. apply_unary c.in-Unary.op (value v (tree_of e))) c.deref-in-Unary-2.ensures ∙ sym (ap (λ e. value v (tree_of e)) c.in-Unary.is))

pub folded-returns-in-Binary : goal.folded-returns-in-Binary
folded-returns-in-Binary t c v known =
    let op = c.in-Binary.op in
    ok_by c.joined_of.result (λ r. value v (tree_of r)) _ _ (c.joined_of.ensures v _ _ (c.folded-a.ensures v known) (c.folded-in-Binary.ensures v known))
    (ap (λ e. apply op (value v (tree_of e)) (value v (tree_of c.deref-in-Binary-2.result.now))) c.deref-in-Binary.ensures
    ∙ ap (λ e. apply op (value v (tree_of c.in-Binary.a.value)) (value v (tree_of e))) c.deref-in-Binary-2.ensures ∙ sym (ap (λ e. value v (tree_of e)) c.in-Binary.is))

pub folded-returns-in-Conditional : goal.folded-returns-in-Conditional
folded-returns-in-Conditional t c v known =
    let a = value v (tree_of c.deref-in-Conditional-2.result.now) in
    let b = value v (tree_of c.deref-in-Conditional-3.result.now) in
    let x = value v (tree_of c.in-Conditional.c.value) in
    ok_by c.chosen_of.result (λ r. value v (tree_of r)) _ _
    (c.chosen_of.ensures v _ _ _ (c.folded-c.ensures v known) (c.folded-a-in-Conditional.ensures v known) (c.folded-in-Conditional.ensures v known))
    (ap (λ e. conditional (value v (tree_of e)) a b) c.deref-in-Conditional.ensures ∙ ap (λ e. conditional x (value v (tree_of e)) b) c.deref-in-Conditional-2.ensures
    ∙ ap (λ e. conditional x (value v (tree_of c.in-Conditional.a.value)) (value v (tree_of e))) c.deref-in-Conditional-3.ensures ∙ sym (ap (λ e. value v (tree_of e)) c.in-Conditional.is))

pub folded-returns-in-Concatenation : goal.folded-returns-in-Concatenation
folded-returns-in-Concatenation t c v known =
    ok_by c.whole_of.result (λ r. value v (tree_of r)) _ _ (c.whole_of.ensures v _ (c.folded_parts.ensures v known))
    (ap (λ ps. concatenated_parts v (trees_of ps)) c.deref-in-Concatenation.ensures ∙ sym (ap (λ e. value v (tree_of e)) c.in-Concatenation.is))
