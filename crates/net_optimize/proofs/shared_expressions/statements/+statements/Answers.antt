use Rattle.std.specs.Prelude.{◌==◌, if◌then◌else◌}
use Rattle.std.proofs.Common.{◌∙◌, sym, ap, List, map, arith}
use Rattle.net_core.specs.declared.tree.Net.{Net}
use Rattle.net_core.specs.declared.tree.Stmt.{Stmt}
use Rattle.net_core.specs.declared.tree.Stmt.TheViews.{sized-Then}
use Rattle.net_core.specs.declared.tree.Stmts.{size-Stmts}
use Rattle.net_core.specs.View.{tree_of, statement_of, statements_of}
use Rattle.net_core.specs.Value.{value}
use Rattle.net_core.specs.Clock.{done, all_done, edge}
use Rattle.net_optimize.proofs.SharedExpressions.ListLemmas.{edge_push}
use Rattle.net_rules.proofs.OkLaws.{ok_by}
use Rattle.net_optimize.proofs.shared_expressions.statements.+statements.Goals as goal

pub rewritten_stmts-loop-left-preserved : goal.rewritten_stmts-loop-left-preserved
rewritten_stmts-loop-left-preserved t c =
    let z = sized-Then Net c.in-Then.first c.in-Then.more in
    let whole = ap (size-Stmts Net) c.in-Then.is in
    let rest = ap (size-Stmts Net) c.deref-left.ensures in
    record {
      done = λ v u s st.
          let before = edge v (map statement_of c.loop-left.all.items) s in
          let more = statements_of c.deref-left.result.now in
          ap (λ (xs : List (Stmt Net)). all_done u more (edge v (map statement_of xs) s)) c.in_ok-push.ensures.items
          ∙ ap (all_done u more) (edge_push v c.loop-left.all.items c.in_ok-rewritten_stmt.field-0 s ∙ c.in_ok-rewritten_stmt.ensures v u before st)
          ∙ ap (λ l. all_done u (statements_of l) (done u (statement_of c.in-Then.first) before)) c.deref-left.ensures
          ∙ sym (ap (λ l. all_done u (statements_of l) before) c.in-Then.is) ∙ c.loop-left.invariant.done v u s st;
      depth = omega (arith, z, whole, rest, c.loop-left.invariant.depth);
    }

pub rewritten_stmts-returns : goal.rewritten_stmts-returns
rewritten_stmts-returns t c v u s st =
    sym (ap (λ l. all_done u (statements_of l) (edge v (map statement_of c.loop-left.all.items) s)) c.in_default.is) ∙ c.loop-left.invariant.done v u s st

pub rewritten_stmt-returns-in-Block : goal.rewritten_stmt-returns-in-Block
rewritten_stmt-returns-in-Block t c v u s st =
    ok_by c.block_of.result (λ r. done v (statement_of r) s) _ _ (c.block_of.ensures v s _ (c.rewritten_stmts.ensures v u s st))
    (ap (λ l. all_done u (statements_of l) s) c.deref.ensures ∙ sym (ap (λ a. done u (statement_of a) s) c.in-Block.is))

pub rewritten_stmt-returns-in-If : goal.rewritten_stmt-returns-in-If
rewritten_stmt-returns-in-If t c v u s st =
    let x = value u (tree_of c.in-If.c) in
    ok_by c.when_of.result (λ r. done v (statement_of r) s) _ _ (c.when_of.ensures v x s _ (c.rewritten-c.ensures v u st) (c.rewritten_stmt.ensures v u s st))
    (ap (λ a. if x.value == 0 then s else done u (statement_of a) s) c.deref-in-If.ensures ∙ sym (ap (λ a. done u (statement_of a) s) c.in-If.is))

pub rewritten_stmt-returns-in-IfElse : goal.rewritten_stmt-returns-in-IfElse
rewritten_stmt-returns-in-IfElse t c v u s st =
    let x = value u (tree_of c.in-IfElse.c) in
    let b = done u (statement_of c.deref-in-IfElse-2.result.now) s in
    ok_by c.when_else_of.result (λ r. done v (statement_of r) s) _ _
    (c.when_else_of.ensures v x s _ _ (c.rewritten-c-in-IfElse.ensures v u st) (c.rewritten_stmt-a.ensures v u s st) (c.rewritten_stmt-in-IfElse.ensures v u s st))
    (ap (λ a. if x.value == 0 then b else done u (statement_of a) s) c.deref-in-IfElse.ensures
    ∙ ap (λ l. if x.value == 0 then done u (statement_of l) s else done u (statement_of c.in-IfElse.a.value) s) c.deref-in-IfElse-2.ensures ∙ sym (ap (λ a. done u (statement_of a) s) c.in-IfElse.is))

pub rewritten_stmt-returns-in-Set : goal.rewritten_stmt-returns-in-Set
rewritten_stmt-returns-in-Set t c v u s st =
    ok_by c.set_of.result (λ r. done v (statement_of r) s) _ _ (c.set_of.ensures v _ s (c.rewritten.ensures v u st)) (sym (ap (λ a. done u (statement_of a) s) c.in-Set.is))

pub rewritten_stmt-returns-in-Store : goal.rewritten_stmt-returns-in-Store
rewritten_stmt-returns-in-Store t c v u s st =
    ok_by c.store_of.result (λ r. done v (statement_of r) s) _ _ (c.store_of.ensures.done v _ _ s (c.rewritten-i.ensures v u st) (c.rewritten-in-Store.ensures v u st))
    (sym (ap (λ a. done u (statement_of a) s) c.in-Store.is))
