use Rattle.std.proofs.Common.{ap, sym, ◌∙◌, arith}
use Rattle.net_core.specs.declared.tree.Expr.TheViews.{sized-More}
use Rattle.net_core.specs.declared.tree.Parts.{size-Parts}
use Rattle.net_core.specs.Nets.{TMemoryWord, TUnary, TBinary, TConditional, TConcatenation, TMore}
use Rattle.net_core.specs.View.{tree_of, trees_of}
use Rattle.block_core.specs.Rename.{rename, rename_parts}
use Rattle.net_rules.proofs.OkLaws.{ok_by}
use Rattle.net_optimize.specs.Renumber.{numbers_of, renumber}
use Rattle.net_optimize.proofs.Loops.{parts_pushed}
use Rattle.net_optimize.proofs.renumber.+expressions.Goals as goal

pub renumbered_parts-loop-left-preserved : goal.renumbered_parts-loop-left-preserved
renumbered_parts-loop-left-preserved t c =
    let f = renumber (numbers_of c.args.numbers.now) in
    let z = sized-More _ c.in-More.part c.in-More.more in
    let whole = ap (size-Parts _) c.in-More.is in
    let part = ap (size-Parts _) c.deref-left.ensures in
    record {
      done = parts_pushed c.loop-left.prefix.items _ _ _ (rename_parts f (trees_of c.loop-left.left.now)) _ _ c.in_ok-push.ensures.items c.in_ok-renumbered_expr.ensures
          (ap (λ l. rename_parts f (trees_of l)) c.in-More.is ∙ sym (ap (λ l. TMore (rename f (tree_of c.in-More.part)) (rename_parts f (trees_of l))) c.deref-left.ensures)) c.loop-left.invariant.done;
      depth = omega (arith, z, whole, part, c.loop-left.invariant.depth);
    }

pub renumbered_expr-returns-in-MemoryWord : goal.renumbered_expr-returns-in-MemoryWord
renumbered_expr-returns-in-MemoryWord t c =
    let f = renumber (numbers_of c.args.numbers.now) in
    ok_by c.memory_word_of.result (λ r. tree_of r) _ _ (c.memory_word_of.ensures.tree _ c.renumbered_expr.ensures)
    (ap (λ n. TMemoryWord n (rename f (tree_of c.deref.result.now))) c.renumbered_net-m.ensures
    ∙ ap (λ e. TMemoryWord (f c.in-MemoryWord.m) (rename f (tree_of e))) c.deref.ensures ∙ sym (ap (λ e. rename f (tree_of e)) c.in-MemoryWord.is))

pub renumbered_expr-returns-in-Unary : goal.renumbered_expr-returns-in-Unary
renumbered_expr-returns-in-Unary t c =
    let f = renumber (numbers_of c.args.numbers.now) in
    ok_by c.unary_of.result (λ r. tree_of r) _ _ (c.unary_of.ensures.tree _ c.renumbered_expr-in-Unary.ensures)
    (ap (λ e. TUnary c.in-Unary.op (rename f (tree_of e))) c.deref-in-Unary.ensures ∙ sym (ap (λ e. rename f (tree_of e)) c.in-Unary.is))

pub renumbered_expr-returns-in-Binary : goal.renumbered_expr-returns-in-Binary
renumbered_expr-returns-in-Binary t c =
    let f = renumber (numbers_of c.args.numbers.now) in
    let op = c.in-Binary.op in
    ok_by c.binary_of.result (λ r. tree_of r) _ _ (c.binary_of.ensures.tree _ _ c.renumbered_expr-a.ensures c.renumbered_expr-in-Binary.ensures)
    (ap (λ e. TBinary op (rename f (tree_of e)) (rename f (tree_of c.deref-in-Binary-2.result.now))) c.deref-in-Binary.ensures
    ∙ ap (λ e. TBinary op (rename f (tree_of c.in-Binary.a.value)) (rename f (tree_of e))) c.deref-in-Binary-2.ensures ∙ sym (ap (λ e. rename f (tree_of e)) c.in-Binary.is))

pub renumbered_expr-returns-in-Conditional : goal.renumbered_expr-returns-in-Conditional
renumbered_expr-returns-in-Conditional t c =
    let f = renumber (numbers_of c.args.numbers.now) in
    let a = rename f (tree_of c.deref-in-Conditional-2.result.now) in
    let b = rename f (tree_of c.deref-in-Conditional-3.result.now) in
    let x = rename f (tree_of c.in-Conditional.c.value) in
    ok_by c.conditional_of.result (λ r. tree_of r) _ _ (c.conditional_of.ensures.tree _ _ _ c.renumbered_expr-c.ensures c.renumbered_expr-a-in-Conditional.ensures c.renumbered_expr-in-Conditional.ensures)
    (ap (λ e. TConditional (rename f (tree_of e)) a b) c.deref-in-Conditional.ensures ∙ ap (λ e. TConditional x (rename f (tree_of e)) b) c.deref-in-Conditional-2.ensures
    ∙ ap (λ e. TConditional x (rename f (tree_of c.in-Conditional.a.value)) (rename f (tree_of e))) c.deref-in-Conditional-3.ensures ∙ sym (ap (λ e. rename f (tree_of e)) c.in-Conditional.is))

pub renumbered_expr-returns-in-Concatenation : goal.renumbered_expr-returns-in-Concatenation
renumbered_expr-returns-in-Concatenation t c =
    let f = renumber (numbers_of c.args.numbers.now) in
    ok_by c.concatenation_of.result (λ r. tree_of r) _ _ (c.concatenation_of.ensures.tree _ c.renumbered_parts.ensures)
    (ap (λ ps. TConcatenation (rename_parts f (trees_of ps))) c.deref-in-Concatenation.ensures ∙ sym (ap (λ e. rename f (tree_of e)) c.in-Concatenation.is))
