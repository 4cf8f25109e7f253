use Rattle.std.proofs.Common.{rules, List, map, ap, ◌∙◌, sym, refl, arith}
use Rattle.net_core.specs.declared.tree.Net.{Net}
use Rattle.net_core.specs.declared.tree.Expr.{Expr}
use Rattle.net_core.specs.declared.tree.Expr.TheViews.{sized-More}
use Rattle.net_core.specs.declared.tree.Parts.{size-Parts}
use Rattle.net_core.specs.Nets.{TMore}
use Rattle.net_core.specs.View.{tree_of, trees_of}
use Rattle.block_core.specs.Rename.{rename, rename_parts}
use Rattle.net_core.specs.Chains.{parts_before}
use Rattle.block_core.specs.View.{resolve_in}
use Rattle.block_core.proofs.LinkedTrees.{memory_word_linked, unary_linked, binary_linked, conditional_linked, parts_step}
use Rattle.block_core.proofs.trees.+expressions.Goals as goal

pub link_expr-returns-in_ok-memory_word-in-MemoryWord-clause-linked : goal.link_expr-returns-in_ok-memory_word-in-MemoryWord-clause-linked
link_expr-returns-in_ok-memory_word-in-MemoryWord-clause-linked g t c =
    let f = resolve_in g.P.Part.place c.args.starts.now in
    memory_word_linked f _ _ _ _ _ _ (ap tree_of c.in-MemoryWord.is) c.in_ok-memory-in-MemoryWord.ensures.net
    (c.in_ok-index-in-MemoryWord.ensures.linked ∙ ap (λ x. rename f (tree_of x)) c.deref.ensures) c.in_ok-memory_word-in-MemoryWord.ensures

pub link_expr-returns-in_ok-unary-in-Unary-clause-linked : goal.link_expr-returns-in_ok-unary-in-Unary-clause-linked
link_expr-returns-in_ok-unary-in-Unary-clause-linked g t c =
    let f = resolve_in g.P.Part.place c.args.starts.now in
    unary_linked f _ _ _ _ _ (ap tree_of c.in-Unary.is) (c.in_ok-a-in-Unary.ensures.linked ∙ ap (λ x. rename f (tree_of x)) c.deref-in-Unary.ensures) c.in_ok-unary-in-Unary.ensures

pub link_expr-returns-in_ok-binary-in-Binary-clause-linked : goal.link_expr-returns-in_ok-binary-in-Binary-clause-linked
link_expr-returns-in_ok-binary-in-Binary-clause-linked g t c =
    let f = resolve_in g.P.Part.place c.args.starts.now in
    binary_linked f _ _ _ _ _ _ _ (ap tree_of c.in-Binary.is)
    (c.in_ok-a-in-Binary.ensures.linked ∙ ap (λ x. rename f (tree_of x)) c.deref-in-Binary.ensures)
    (c.in_ok-b-in-Binary.ensures.linked ∙ ap (λ x. rename f (tree_of x)) c.deref-in-Binary-2.ensures) c.in_ok-binary-in-Binary.ensures

pub link_expr-returns-in_ok-chosen-in-Conditional-clause-linked : goal.link_expr-returns-in_ok-chosen-in-Conditional-clause-linked
link_expr-returns-in_ok-chosen-in-Conditional-clause-linked g t c =
    let f = resolve_in g.P.Part.place c.args.starts.now in
    conditional_linked f _ _ _ _ _ _ _ _ (ap tree_of c.in-Conditional.is)
    (c.in_ok-c-in-Conditional.ensures.linked ∙ ap (λ x. rename f (tree_of x)) c.deref-in-Conditional.ensures)
    (c.in_ok-a-in-Conditional.ensures.linked ∙ ap (λ x. rename f (tree_of x)) c.deref-in-Conditional-2.ensures)
    (c.in_ok-b-in-Conditional.ensures.linked ∙ ap (λ x. rename f (tree_of x)) c.deref-in-Conditional-3.ensures) c.in_ok-chosen-in-Conditional.ensures

pub link_parts-loop-left-init : goal.link_parts-loop-left-init
link_parts-loop-left-init g t c = record {
  done = ap (λ (xs : List (Expr Net)). parts_before (map tree_of xs) (rename_parts (resolve_in g.P.Part.place c.args.starts.now) (trees_of c.args.parts.now))) c.new-prefix.ensures.items;
  range = refl;
  depth = omega arith;
}

pub link_parts-link_expr-requires : goal.link_parts-link_expr-requires
link_parts-link_expr-requires g t c =
    let z = sized-More _ c.in-More.part c.in-More.more in
    let whole = ap (size-Parts _) c.in-More.is in
    λ κs x. (omega (arith, z, whole, c.loop-left.invariant.depth, c.decreases), λ a x'. search rules)

pub link_parts-loop-left-preserved : goal.link_parts-loop-left-preserved
link_parts-loop-left-preserved g t c =
    let f = resolve_in g.P.Part.place c.args.starts.now in
    let z = sized-More _ c.in-More.part c.in-More.more in
    let whole = ap (size-Parts _) c.in-More.is in
    let part = ap (size-Parts _) c.deref-left.ensures in
    record {
      done = parts_step f c.loop-left.prefix.items _ _ _ (trees_of c.loop-left.left.now) _ _ c.in_ok-push.ensures.items c.in_ok-link_expr.ensures.linked
          (ap trees_of c.in-More.is ∙ sym (ap (λ l. TMore (tree_of c.in-More.part) (trees_of l)) c.deref-left.ensures)) c.loop-left.invariant.done;
      range = rw c.deref-left.ensures (rw c.in_ok-link_expr.ensures.range at (rw c.in-More.is at c.loop-left.invariant.range));
      depth = omega (arith, z, whole, part, c.loop-left.invariant.depth);
    }

-- ---- what was linked is in range
pub link_expr-returns-in_ok-memory_word-in-MemoryWord-clause-range : goal.link_expr-returns-in_ok-memory_word-in-MemoryWord-clause-range
link_expr-returns-in_ok-memory_word-in-MemoryWord-clause-range g t c = rw (c.in-MemoryWord.is, c.in_ok-memory-in-MemoryWord.ensures.range, ← c.deref.ensures) c.in_ok-index-in-MemoryWord.ensures.range

pub link_expr-returns-in_ok-unary-in-Unary-clause-range : goal.link_expr-returns-in_ok-unary-in-Unary-clause-range
link_expr-returns-in_ok-unary-in-Unary-clause-range g t c = rw (c.in-Unary.is, ← c.deref-in-Unary.ensures) c.in_ok-a-in-Unary.ensures.range

pub link_expr-returns-in_ok-binary-in-Binary-clause-range : goal.link_expr-returns-in_ok-binary-in-Binary-clause-range
link_expr-returns-in_ok-binary-in-Binary-clause-range g t c = rw (c.in-Binary.is, ← c.deref-in-Binary.ensures, ← c.deref-in-Binary-2.ensures, c.in_ok-a-in-Binary.ensures.range) c.in_ok-b-in-Binary.ensures.range

pub link_expr-returns-in_ok-chosen-in-Conditional-clause-range : goal.link_expr-returns-in_ok-chosen-in-Conditional-clause-range
link_expr-returns-in_ok-chosen-in-Conditional-clause-range g t c =
    rw (c.in-Conditional.is, ← c.deref-in-Conditional.ensures, ← c.deref-in-Conditional-2.ensures, ← c.deref-in-Conditional-3.ensures, c.in_ok-c-in-Conditional.ensures.range, c.in_ok-a-in-Conditional.ensures.range) c.in_ok-b-in-Conditional.ensures.range

pub link_expr-returns-in_ok-new-in-Concatenation-clause-range : goal.link_expr-returns-in_ok-new-in-Concatenation-clause-range
link_expr-returns-in_ok-new-in-Concatenation-clause-range g t c = rw (c.in-Concatenation.is, ← c.deref-in-Concatenation.ensures) c.in_ok-parts-in-Concatenation.ensures.range
