use Rattle.std.proofs.Common.{◌∙◌, sym, ap, map, arith}
use Rattle.net_core.specs.declared.tree.Net.{Net}
use Rattle.net_core.specs.declared.tree.Expr.TheViews.{sized-More}
use Rattle.net_core.specs.declared.tree.Parts.{size-Parts}
use Rattle.net_core.specs.Nets.{TMore, TLast}
use Rattle.net_core.specs.View.{tree_of, trees_of}
use Rattle.net_core.specs.Value.{value, apply, apply_unary, conditional, concatenated_parts}
use Rattle.net_core.proofs.PartLaws.{before, parts_before_value, parts_step}
use Rattle.net_rules.proofs.OkLaws.{ok_by}
use Rattle.net_rules.proofs.logic_rules.simplifying.+expressions.Goals as goal

pub simple_parts-loop-left-preserved : goal.simple_parts-loop-left-preserved
simple_parts-loop-left-preserved t c =
    let z = sized-More Net c.in-More.part c.in-More.more in
    let whole = ap (size-Parts Net) c.in-More.is in
    let part = ap (size-Parts Net) c.deref-left.ensures in
    record {
      done = λ v fit known. parts_step v v c.loop-left.prefix.items _ _ (tree_of c.in-More.part) (trees_of c.loop-left.left.now) _ _ c.in_ok-push.ensures.items (sym (c.in_ok-simple.ensures v fit known))
          (ap trees_of c.in-More.is ∙ sym (ap (λ l. TMore (tree_of c.in-More.part) (trees_of l)) c.deref-left.ensures)) (c.loop-left.invariant.done v fit known);
      depth = omega (arith, z, whole, part, c.loop-left.invariant.depth);
    }

pub simple_parts-returns : goal.simple_parts-returns
simple_parts-returns t c v fit known =
    let front = map tree_of c.loop-left.prefix.items in
    ap (concatenated_parts v) c.in_ok-whole-in-Last.ensures ∙ parts_before_value v front (TLast (tree_of c.in_ok-last-in-Last.last))
    ∙ ap (before v front) (c.in_ok-last-in-Last.ensures v fit known) ∙ sym (ap (λ l. before v front (concatenated_parts v (trees_of l))) c.in-Last.is) ∙ c.loop-left.invariant.done v fit known

pub simple-returns-in-MemoryWord : goal.simple-returns-in-MemoryWord
simple-returns-in-MemoryWord t c v fit known =
    ok_by c.memory_word_of.result (λ r. value v (tree_of r)) _ _ (c.memory_word_of.ensures.value v _ (c.simple.ensures v fit known))
    (ap (λ e. v.memory_word c.in-MemoryWord.m (value v (tree_of e)).value) c.deref.ensures ∙ sym (ap (λ e. value v (tree_of e)) c.in-MemoryWord.is))

pub simple-returns-in-Unary : goal.simple-returns-in-Unary
simple-returns-in-Unary t c v fit known =
    ok_by c.prefixed.result (λ r. value v (tree_of r)) _ _
    (c.prefixed.ensures v fit
    (ok_by c.simple-in-Unary.result (λ r. value v (tree_of r)) _ _ (c.simple-in-Unary.ensures v fit known) (ap (λ e. value v (tree_of e)) (c.deref-in-Unary.ensures ∙ sym c.deref-in-Unary-2.ensures))))
    (ap (λ e. apply_unary c.in-Unary.op (value v (tree_of e))) c.deref-in-Unary-2.ensures ∙ sym (ap (λ e. value v (tree_of e)) c.in-Unary.is))

pub simple-returns-in-Binary : goal.simple-returns-in-Binary
simple-returns-in-Binary t c v fit known =
    let op = c.in-Binary.op in
    ok_by c.joined.result (λ r. value v (tree_of r)) _ _
    (c.joined.ensures v _ _ fit (c.simple-a.ensures v fit known) (c.simple-in-Binary.ensures v fit known))
    (ap (λ e. apply op (value v (tree_of e)) (value v (tree_of c.deref-in-Binary-2.result.now))) c.deref-in-Binary.ensures
    ∙ ap (λ e. apply op (value v (tree_of c.in-Binary.a.value)) (value v (tree_of e))) c.deref-in-Binary-2.ensures ∙ sym (ap (λ e. value v (tree_of e)) c.in-Binary.is))

pub simple-returns-in-Conditional : goal.simple-returns-in-Conditional
simple-returns-in-Conditional t c v fit known =
    let a = value v (tree_of c.deref-in-Conditional-2.result.now) in
    let b = value v (tree_of c.deref-in-Conditional-3.result.now) in
    let x = value v (tree_of c.in-Conditional.c.value) in
    ok_by c.chosen.result (λ r. value v (tree_of r)) _ _
    (c.chosen.ensures v _ _ _ fit (c.simple-c.ensures v fit known) (c.simple-a-in-Conditional.ensures v fit known) (c.simple-in-Conditional.ensures v fit known))
    (ap (λ e. conditional (value v (tree_of e)) a b) c.deref-in-Conditional.ensures ∙ ap (λ e. conditional x (value v (tree_of e)) b) c.deref-in-Conditional-2.ensures
    ∙ ap (λ e. conditional x (value v (tree_of c.in-Conditional.a.value)) (value v (tree_of e))) c.deref-in-Conditional-3.ensures ∙ sym (ap (λ e. value v (tree_of e)) c.in-Conditional.is))

pub simple-returns-in-Concatenation : goal.simple-returns-in-Concatenation
simple-returns-in-Concatenation t c v fit known =
    ok_by c.concatenation_of.result (λ r. value v (tree_of r)) _ _ (c.concatenation_of.ensures.value v _ (c.simple_parts.ensures v fit known))
    (ap (λ ps. concatenated_parts v (trees_of ps)) c.deref-in-Concatenation.ensures ∙ sym (ap (λ e. value v (tree_of e)) c.in-Concatenation.is))
