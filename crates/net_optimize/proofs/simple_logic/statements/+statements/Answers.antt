use Rattle.std.specs.Prelude.{◌==◌, if◌then◌else◌}
use Rattle.std.proofs.Common.{◌∙◌, sym, ap, List, map, arith}
use Rattle.net_core.specs.declared.tree.Net.{Net}
use Rattle.net_core.specs.declared.tree.Stmt.{Stmt}
use Rattle.net_core.specs.declared.tree.Stmt.TheViews.{sized-Then}
use Rattle.net_core.specs.declared.tree.Stmts.{size-Stmts}
use Rattle.net_core.specs.View.{tree_of, statement_of, statements_of}
use Rattle.net_core.specs.Value.{value}
use Rattle.net_core.specs.Clock.{done, all_done, edge}
use Rattle.net_optimize.proofs.SimpleLogic.ListLemmas.{edge_push}
use Rattle.net_rules.proofs.OkLaws.{ok_by}
use Rattle.net_optimize.proofs.simple_logic.statements.+statements.Goals as goal

pub simple_stmts-loop-left-preserved : goal.simple_stmts-loop-left-preserved
simple_stmts-loop-left-preserved t c =
    let z = sized-Then Net c.in-Then.first c.in-Then.more in
    let whole = ap (size-Stmts Net) c.in-Then.is in
    let rest = ap (size-Stmts Net) c.deref-left.ensures in
    record {
      done = λ v s hold.
          let before = edge v (map statement_of c.loop-left.all.items) s in
          let more = statements_of c.deref-left.result.now in
          ap (λ (xs : List (Stmt Net)). all_done v more (edge v (map statement_of xs) s)) c.in_ok-push.ensures.items
          ∙ ap (all_done v more) (edge_push v c.loop-left.all.items c.in_ok-simple_stmt.field-0 s ∙ c.in_ok-simple_stmt.ensures v before hold)
          ∙ ap (λ l. all_done v (statements_of l) (done v (statement_of c.in-Then.first) before)) c.deref-left.ensures
          ∙ sym (ap (λ l. all_done v (statements_of l) before) c.in-Then.is) ∙ c.loop-left.invariant.done v s hold;
      depth = omega (arith, z, whole, rest, c.loop-left.invariant.depth);
    }

pub simple_stmts-returns : goal.simple_stmts-returns
simple_stmts-returns t c v s hold =
    sym (ap (λ l. all_done v (statements_of l) (edge v (map statement_of c.loop-left.all.items) s)) c.in_default.is) ∙ c.loop-left.invariant.done v s hold

pub simple_stmt-returns-in-Block : goal.simple_stmt-returns-in-Block
simple_stmt-returns-in-Block t c v s hold =
    ok_by c.block_of.result (λ r. done v (statement_of r) s) _ _ (c.block_of.ensures v s _ (c.simple_stmts.ensures v s hold))
    (ap (λ l. all_done v (statements_of l) s) c.deref.ensures ∙ sym (ap (λ a. done v (statement_of a) s) c.in-Block.is))

pub simple_stmt-returns-in-If : goal.simple_stmt-returns-in-If
simple_stmt-returns-in-If t c v s hold =
    let x = value v (tree_of c.in-If.c) in
    ok_by c.under.result (λ r. done v (statement_of r) s) _ _ (c.under.ensures v x s _ (c.simple-c.ensures v hold) (c.simple_stmt.ensures v s hold))
    (ap (λ a. if x.value == 0 then s else done v (statement_of a) s) c.deref-in-If.ensures ∙ sym (ap (λ a. done v (statement_of a) s) c.in-If.is))

pub simple_stmt-returns-in-IfElse : goal.simple_stmt-returns-in-IfElse
simple_stmt-returns-in-IfElse t c v s hold =
    let x = value v (tree_of c.in-IfElse.c) in
    let b = done v (statement_of c.deref-in-IfElse-2.result.now) s in
    ok_by c.when_else_of.result (λ r. done v (statement_of r) s) _ _
    (c.when_else_of.ensures v x s _ _ (c.simple-c-in-IfElse.ensures v hold) (c.simple_stmt-a.ensures v s hold) (c.simple_stmt-in-IfElse.ensures v s hold))
    (ap (λ a. if x.value == 0 then b else done v (statement_of a) s) c.deref-in-IfElse.ensures
    ∙ ap (λ l. if x.value == 0 then done v (statement_of l) s else done v (statement_of c.in-IfElse.a.value) s) c.deref-in-IfElse-2.ensures ∙ sym (ap (λ a. done v (statement_of a) s) c.in-IfElse.is))

pub simple_stmt-returns-in-Set : goal.simple_stmt-returns-in-Set
simple_stmt-returns-in-Set t c v s hold =
    ok_by c.set_of.result (λ r. done v (statement_of r) s) _ _ (c.set_of.ensures v _ s (c.simple.ensures v hold)) (sym (ap (λ a. done v (statement_of a) s) c.in-Set.is))

pub simple_stmt-returns-in-Store : goal.simple_stmt-returns-in-Store
simple_stmt-returns-in-Store t c v s hold =
    ok_by c.store_of.result (λ r. done v (statement_of r) s) _ _ (c.store_of.ensures.done v _ _ s (c.simple-i.ensures v hold) (c.simple-in-Store.ensures v hold))
    (sym (ap (λ a. done v (statement_of a) s) c.in-Store.is))
