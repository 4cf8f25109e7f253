use Rattle.std.proofs.Common.{◌∙◌, sym, ap, List, map, arith}
use Rattle.net_core.specs.declared.tree.Net.{Net}
use Rattle.net_core.specs.declared.tree.Expr.{Expr}
use Rattle.net_core.specs.declared.tree.Expr.TheViews.{sized-More}
use Rattle.net_core.specs.declared.tree.Parts.{size-Parts}
use Rattle.net_core.specs.Nets.{TMore, TLast}
use Rattle.net_core.specs.View.{tree_of, trees_of}
use Rattle.net_core.specs.Value.{value, apply, apply_unary, conditional, concatenated, concatenated_parts}
use Rattle.net_core.specs.Chains.{parts_before}
use Rattle.net_core.proofs.ChainLaws.{parts_one_more}
use Rattle.net_rules.proofs.OkLaws.{ok_by}
use Rattle.net_optimize.proofs.shared_expressions.rewriting.+expressions.Goals as goal

pub rewritten_parts-loop-left-preserved : goal.rewritten_parts-loop-left-preserved
rewritten_parts-loop-left-preserved t c =
    let z = sized-More Net c.in-More.part c.in-More.more in
    let whole = ap (size-Parts Net) c.in-More.is in
    let rest = ap (size-Parts Net) c.deref-left.ensures in
    let r = c.in_ok-rewritten.field-0 in
    record {
      done = λ v u st ps h.
          ap (λ (xs : List (Expr Net)). concatenated_parts v (parts_before (map tree_of xs) ps)) c.in_ok-push.ensures.items
          ∙ ap (concatenated_parts v) (parts_one_more c.loop-left.prefix.items r ps)
          ∙ c.loop-left.invariant.done v u st (TMore (tree_of r) ps) (
          ap (λ w. concatenated w (concatenated_parts v ps)) (c.in_ok-rewritten.ensures v u st)
          ∙ ap (concatenated (value u (tree_of c.in-More.part))) (h ∙ ap (λ l. concatenated_parts u (trees_of l)) c.deref-left.ensures)
          ∙ sym (ap (λ l. concatenated_parts u (trees_of l)) c.in-More.is)
          );
      depth = omega (arith, z, whole, rest, c.loop-left.invariant.depth);
    }

pub rewritten_parts-returns : goal.rewritten_parts-returns
rewritten_parts-returns t c v u st =
    ap (concatenated_parts v) c.in_ok-whole-in-Last.ensures
    ∙ c.loop-left.invariant.done v u st (TLast (tree_of c.in_ok-last-in-Last.last)) (c.in_ok-last-in-Last.ensures v u st ∙ sym (ap (λ l. concatenated_parts u (trees_of l)) c.in-Last.is))

pub inside-returns-in-MemoryWord : goal.inside-returns-in-MemoryWord
inside-returns-in-MemoryWord t c v u st =
    ok_by c.memory_word_of.result (λ r. value v (tree_of r)) _ _ (c.memory_word_of.ensures.value v _ (c.rewritten.ensures v u st))
    (st.words c.in-MemoryWord.m _ ∙ ap (λ e. u.memory_word c.in-MemoryWord.m (value u (tree_of e)).value) c.deref-in-MemoryWord.ensures ∙ sym (ap (λ e. value u (tree_of e)) c.in-MemoryWord.is))

pub inside-returns-in-Unary : goal.inside-returns-in-Unary
inside-returns-in-Unary t c v u st =
    ok_by c.unary_of.result (λ r. value v (tree_of r)) _ _ (c.unary_of.ensures.value v _ (c.rewritten-in-Unary.ensures v u st))
    (ap (λ e. apply_unary c.in-Unary.op (value u (tree_of e))) c.deref-in-Unary.ensures ∙ sym (ap (λ e. value u (tree_of e)) c.in-Unary.is))

pub inside-returns-in-Binary : goal.inside-returns-in-Binary
inside-returns-in-Binary t c v u st =
    let op = c.in-Binary.op in
    ok_by c.binary_of.result (λ r. value v (tree_of r)) _ _ (c.binary_of.ensures.value v _ _ (c.rewritten-a.ensures v u st) (c.rewritten-in-Binary.ensures v u st))
    (ap (λ e. apply op (value u (tree_of e)) (value u (tree_of c.deref-in-Binary-2.result.now))) c.deref-in-Binary.ensures
    ∙ ap (λ e. apply op (value u (tree_of c.in-Binary.a.value)) (value u (tree_of e))) c.deref-in-Binary-2.ensures ∙ sym (ap (λ e. value u (tree_of e)) c.in-Binary.is))

pub inside-returns-in-Conditional : goal.inside-returns-in-Conditional
inside-returns-in-Conditional t c v u st =
    let a = value u (tree_of c.deref-in-Conditional-2.result.now) in
    let b = value u (tree_of c.deref-in-Conditional-3.result.now) in
    let x = value u (tree_of c.in-Conditional.c.value) in
    ok_by c.conditional_of.result (λ r. value v (tree_of r)) _ _
    (c.conditional_of.ensures.value v _ _ _ (c.rewritten-c.ensures v u st) (c.rewritten-a-in-Conditional.ensures v u st) (c.rewritten-in-Conditional.ensures v u st))
    (ap (λ e. conditional (value u (tree_of e)) a b) c.deref-in-Conditional.ensures ∙ ap (λ e. conditional x (value u (tree_of e)) b) c.deref-in-Conditional-2.ensures
    ∙ ap (λ e. conditional x (value u (tree_of c.in-Conditional.a.value)) (value u (tree_of e))) c.deref-in-Conditional-3.ensures ∙ sym (ap (λ e. value u (tree_of e)) c.in-Conditional.is))

pub inside-returns-in-Concatenation : goal.inside-returns-in-Concatenation
inside-returns-in-Concatenation t c v u st =
    ok_by c.concatenation_of.result (λ r. value v (tree_of r)) _ _ (c.concatenation_of.ensures.value v _ (c.rewritten_parts.ensures v u st))
    (ap (λ ps. concatenated_parts u (trees_of ps)) c.deref-in-Concatenation.ensures ∙ sym (ap (λ e. value u (tree_of e)) c.in-Concatenation.is))
