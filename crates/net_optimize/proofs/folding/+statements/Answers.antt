use Rattle.std.specs.Prelude.{◌==◌, if◌then◌else◌}
use Rattle.std.proofs.Common.{◌∙◌, sym, ap, arith}
use Rattle.net_core.specs.declared.tree.Net.{Net}
use Rattle.net_core.specs.declared.tree.Stmt.TheViews.{sized-Then}
use Rattle.net_core.specs.declared.tree.Stmts.{size-Stmts}
use Rattle.net_core.specs.View.{tree_of, statement_of, statements_of}
use Rattle.net_core.specs.Value.{value}
use Rattle.net_core.specs.Clock.{done, all_done}
use Rattle.net_rules.proofs.OkLaws.{ok_by}
use Rattle.net_optimize.specs.Lists.{joined_done}
use Rattle.net_optimize.proofs.folding.+statements.Goals as goal

pub with_all-loop-left-preserved : goal.with_all-loop-left-preserved
with_all-loop-left-preserved t c =
    let z = sized-Then Net c.in-Then.first c.in-Then.more in
    let whole = ap (size-Stmts Net) c.in-Then.is in
    let rest = ap (size-Stmts Net) c.deref-left.ensures in
    record {
      done = λ v s known.
          let before = joined_done v c.loop-left.all s in
          ap (all_done v (statements_of c.deref-left.result.now)) (c.in_ok-all.ensures v s known)
          ∙ ap (λ l. all_done v (statements_of l) (done v (statement_of c.in-Then.first) before)) c.deref-left.ensures ∙ sym (ap (λ l. all_done v (statements_of l) before) c.in-Then.is)
          ∙ c.loop-left.invariant.done v s known;
      depth = omega (arith, z, whole, rest, c.loop-left.invariant.depth);
    }

pub folded_stmt-returns-in-Block : goal.folded_stmt-returns-in-Block
folded_stmt-returns-in-Block t c v s known =
    ok_by c.block_of.result (λ r. done v (statement_of r) s) _ _ (c.block_of.ensures v s _ (c.closed_of.ensures v s _ (c.with_all-all.ensures v s known)))
    (ap (all_done v (statements_of c.deref.result.now)) (c.none.ensures v s) ∙ ap (λ l. all_done v (statements_of l) s) c.deref.ensures ∙ sym (ap (λ a. done v (statement_of a) s) c.in-Block.is))

pub folded_stmt-returns-in-If : goal.folded_stmt-returns-in-If
folded_stmt-returns-in-If t c v s known =
    let x = value v (tree_of c.in-If.c) in
    ok_by c.under_of.result (λ r. done v (statement_of r) s) _ _ (c.under_of.ensures v x s _ (c.folded-c.ensures v known) (c.closed_of-in-If.ensures v s _ (c.with_folded-body.ensures v s known)))
    (ap (λ z. if x.value == 0 then s else done v (statement_of c.deref-in-If.result.now) z) (c.none-in-If.ensures v s)
    ∙ ap (λ a. if x.value == 0 then s else done v (statement_of a) s) c.deref-in-If.ensures ∙ sym (ap (λ a. done v (statement_of a) s) c.in-If.is))

pub folded_stmt-returns-in-IfElse : goal.folded_stmt-returns-in-IfElse
folded_stmt-returns-in-IfElse t c v s known =
    let x = value v (tree_of c.in-IfElse.c) in
    let b = done v (statement_of c.deref-in-IfElse-2.result.now) s in
    ok_by c.when_else_of.result (λ r. done v (statement_of r) s) _ _
    (c.when_else_of.ensures v x s _ _ (c.folded-c-in-IfElse.ensures v known) (c.folded_stmt-a.ensures v s known) (c.folded_stmt.ensures v s known))
    (ap (λ a. if x.value == 0 then b else done v (statement_of a) s) c.deref-in-IfElse.ensures
    ∙ ap (λ l. if x.value == 0 then done v (statement_of l) s else done v (statement_of c.in-IfElse.a.value) s) c.deref-in-IfElse-2.ensures ∙ sym (ap (λ a. done v (statement_of a) s) c.in-IfElse.is))

pub folded_stmt-returns-in-Set : goal.folded_stmt-returns-in-Set
folded_stmt-returns-in-Set t c v s known =
    ok_by c.set_of.result (λ r. done v (statement_of r) s) _ _ (c.set_of.ensures v _ s (c.folded.ensures v known)) (sym (ap (λ a. done v (statement_of a) s) c.in-Set.is))

pub folded_stmt-returns-in-Store : goal.folded_stmt-returns-in-Store
folded_stmt-returns-in-Store t c v s known =
    ok_by c.store_of.result (λ r. done v (statement_of r) s) _ _ (c.store_of.ensures.done v _ _ s (c.folded-i.ensures v known) (c.folded-in-Store.ensures v known))
    (sym (ap (λ a. done v (statement_of a) s) c.in-Store.is))

pub with_folded-returns-in-If : goal.with_folded-returns-in-If
with_folded-returns-in-If t c v s known =
    let x = value v (tree_of c.in-If.c) in
    let before = joined_done v c.args.list s in
    ok_by c.with_guarded_of.result (λ r. joined_done v r s) _ _
    (c.with_guarded_of.ensures v x s _ (c.folded-c.ensures v known) (c.closed_of.ensures v before _ (c.with_folded-body.ensures v before known)))
    (ap (λ z. if x.value == 0 then before else done v (statement_of c.deref-in-If.result.now) z) (c.none.ensures v before)
    ∙ ap (λ a. if x.value == 0 then before else done v (statement_of a) before) c.deref-in-If.ensures ∙ sym (ap (λ a. done v (statement_of a) before) c.in-If.is))

pub with_folded-returns-in_default : goal.with_folded-returns-in_default
with_folded-returns-in_default t c v s known = c.with_statement_of.ensures v s _ (c.folded_stmt.ensures v (joined_done v c.args.list s) known)
