use Rattle.std.proofs.Common.{◌∙◌, sym, ap, map, arith}
use Rattle.net_core.specs.declared.tree.Net.{Net}
use Rattle.net_core.specs.declared.tree.Stmt.TheViews.{sized-Then}
use Rattle.net_core.specs.declared.tree.Stmts.{size-Stmts}
use Rattle.net_core.specs.Nets.{SBlock, SIf, SIfElse, SThen}
use Rattle.net_core.specs.View.{tree_of, statement_of, statements_of}
use Rattle.net_core.specs.Value.{value}
use Rattle.register_rules.specs.NarrowRegisters.Narrow.{coding_of}
use Rattle.register_rules.proofs.NarrowRegisters.StoredLemmas.{either_narrowed, statements_step, statements_end, of_trees}
use Rattle.register_rules.proofs.narrow_registers.assigning.+statements.Goals as goal

pub narrow_stmt-returns-in_ok-block-in-Block : goal.narrow_stmt-returns-in_ok-block-in-Block
narrow_stmt-returns-in_ok-block-in-Block t c =
    of_trees (coding_of c.args.codes.now) _ (SBlock (statements_of c.deref.result.now)) _ _
    (ap statement_of c.in-Block.is ∙ sym (ap (λ l. SBlock (statements_of l)) c.deref.ensures)) c.in_ok-block-in-Block.ensures c.in_ok-more-in-Block.ensures

pub narrow_stmt-returns-in_ok-when-in-If : goal.narrow_stmt-returns-in_ok-when-in-If
narrow_stmt-returns-in_ok-when-in-If t c =
    let condition = tree_of c.in-If.c in
    of_trees (coding_of c.args.codes.now) _ (SIf condition (statement_of c.deref-in-If.result.now)) _ _
    (ap statement_of c.in-If.is ∙ sym (ap (λ l. SIf condition (statement_of l)) c.deref-in-If.ensures)) c.in_ok-when-in-If.ensures
    (λ v u known r s h. either_narrowed (coding_of c.args.codes.now).registers (value v condition) _ r _ s _ (c.in_ok-c-in-If.ensures v u known) h (c.in_ok-a-in-If.ensures v u known r s h))

pub narrow_stmt-returns-in_ok-when_else-in-IfElse : goal.narrow_stmt-returns-in_ok-when_else-in-IfElse
narrow_stmt-returns-in_ok-when_else-in-IfElse t c =
    let condition = tree_of c.in-IfElse.c in
    let first = c.deref-in-IfElse in
    let second = c.deref-in-IfElse-2 in
    of_trees (coding_of c.args.codes.now) _ (SIfElse condition (statement_of first.result.now) (statement_of second.result.now)) _ _
    (ap statement_of c.in-IfElse.is ∙ sym (ap (λ l. SIfElse condition (statement_of l) (statement_of c.in-IfElse.b.value)) first.ensures)
    ∙ sym (ap (λ l. SIfElse condition (statement_of first.result.now) (statement_of l)) second.ensures)) c.in_ok-when_else-in-IfElse.ensures
    (λ v u known r s h. either_narrowed (coding_of c.args.codes.now).registers (value v condition) _ _ _ _ _ (c.in_ok-c-in-IfElse.ensures v u known)
    (c.in_ok-b-in-IfElse.ensures v u known r s h) (c.in_ok-a-in-IfElse.ensures v u known r s h))

pub narrow_stmts-loop-left-preserved : goal.narrow_stmts-loop-left-preserved
narrow_stmts-loop-left-preserved t c =
    let z = sized-Then Net c.in-Then.first c.in-Then.more in
    let whole = ap (size-Stmts Net) c.in-Then.is in
    let rest = ap (size-Stmts Net) c.deref-left.ensures in
    record {
      done = λ v u known r s h. statements_step (coding_of c.args.codes.now).registers v u c.loop-left.prefix.items _ _ (statement_of c.in-Then.first) (statements_of c.loop-left.left.now) _ s _
          c.in_ok-push.ensures.items (c.in_ok-narrow_stmt.ensures v u known)
          (ap statements_of c.in-Then.is ∙ sym (ap (λ l. SThen (statement_of c.in-Then.first) (statements_of l)) c.deref-left.ensures)) (c.loop-left.invariant.done v u known r s h);
      depth = omega (arith, z, whole, rest, c.loop-left.invariant.depth);
    }

pub narrow_stmts-returns : goal.narrow_stmts-returns
narrow_stmts-returns t c v u known r s h =
    statements_end (coding_of c.args.codes.now).registers v u (statements_of c.loop-left.left.now) _ (map statement_of c.loop-left.prefix.items) s _ (ap statements_of c.in_default.is) c.in_ok-more.ensures
    (c.loop-left.invariant.done v u known r s h)
