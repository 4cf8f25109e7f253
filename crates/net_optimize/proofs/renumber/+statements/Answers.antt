use Rattle.std.proofs.Common.{get_or, ap, sym, ◌∙◌, arith}
use Rattle.net_core.specs.declared.tree.Stmt.TheViews.{sized-Then}
use Rattle.net_core.specs.declared.tree.Stmts.{size-Stmts}
use Rattle.net_core.specs.Nets.{SBlock}
use Rattle.net_core.specs.View.{tree_of, statement_of, statements_of}
use Rattle.net_core.specs.Chains.{statements_before}
use Rattle.block_core.specs.Rename.{rename}
use Rattle.net_rules.proofs.OkLaws.{ok_by}
use Rattle.net_optimize.specs.Renumber.{numbers_of, renumber, busy, when, when_else, set_kept, dropped, renumber_statement, renumber_statements}
use Rattle.net_optimize.proofs.Loops.{busy_before}
use Rattle.net_optimize.proofs.renumber.+statements.Goals as goal

pub renumbered_stmts-loop-left-preserved : goal.renumbered_stmts-loop-left-preserved
renumbered_stmts-loop-left-preserved t c =
    let ns = numbers_of c.args.numbers.now in
    let z = sized-Then _ c.in-Then.first c.in-Then.more in
    let whole = ap (size-Stmts _) c.in-Then.is in
    let part = ap (size-Stmts _) c.deref-left.ensures in
    record {
      done = busy_before _ _ _ _ (renumber_statements ns (statements_of c.loop-left.left.now)) _ _ c.in_ok-push_busy.ensures c.in_ok-first.ensures
          (ap (λ l. renumber_statements ns (statements_of l)) c.in-Then.is
          ∙ sym (ap (λ l. statements_before (busy (renumber_statement ns (statement_of c.in-Then.first))) (renumber_statements ns (statements_of l))) c.deref-left.ensures)) c.loop-left.invariant.done;
      depth = omega (arith, z, whole, part, c.loop-left.invariant.depth);
    }

pub renumbered_stmt-returns-in-Block : goal.renumbered_stmt-returns-in-Block
renumbered_stmt-returns-in-Block t c =
    let ns = numbers_of c.args.numbers.now in
    ok_by c.block_of.result (λ r. statement_of r) _ _ (c.block_of.ensures _ c.renumbered_stmts.ensures)
    (ap (λ l. SBlock (renumber_statements ns (statements_of l))) c.deref.ensures ∙ sym (ap (λ a. renumber_statement ns (statement_of a)) c.in-Block.is))

pub renumbered_stmt-returns-in-If : goal.renumbered_stmt-returns-in-If
renumbered_stmt-returns-in-If t c =
    let ns = numbers_of c.args.numbers.now in
    ok_by c.when_of.result (λ r. statement_of r) _ _ (c.when_of.ensures _ _ c.renumbered_expr-c.ensures c.renumbered_stmt.ensures)
    (ap (λ l. when (rename (renumber ns) (tree_of c.in-If.c)) (renumber_statement ns (statement_of l))) c.deref-in-If.ensures ∙ sym (ap (λ a. renumber_statement ns (statement_of a)) c.in-If.is))

pub renumbered_stmt-returns-in-IfElse : goal.renumbered_stmt-returns-in-IfElse
renumbered_stmt-returns-in-IfElse t c =
    let ns = numbers_of c.args.numbers.now in
    let x = rename (renumber ns) (tree_of c.in-IfElse.c) in
    ok_by c.when_else_of.result (λ r. statement_of r) _ _ (c.when_else_of.ensures _ _ _ c.renumbered_expr-c-in-IfElse.ensures c.renumbered_stmt-a.ensures c.renumbered_stmt-in-IfElse.ensures)
    (ap (λ l. when_else x (renumber_statement ns (statement_of l)) (renumber_statement ns (statement_of c.deref-in-IfElse-2.result.now))) c.deref-in-IfElse.ensures
    ∙ ap (λ l. when_else x (renumber_statement ns (statement_of c.in-IfElse.a.value)) (renumber_statement ns (statement_of l))) c.deref-in-IfElse-2.ensures
    ∙ sym (ap (λ a. renumber_statement ns (statement_of a)) c.in-IfElse.is))

pub renumbered_stmt-returns-in-Set : goal.renumbered_stmt-returns-in-Set
renumbered_stmt-returns-in-Set t c =
    let ns = numbers_of c.args.numbers.now in
    ok_by c.set_kept_of.result (λ r. statement_of r) _ _ (c.set_kept_of.ensures _ c.renumbered_expr.ensures)
    (ap (λ n. set_kept n (rename (renumber ns) (tree_of c.in-Set.e))) (c.new_number-number.ensures ∙ ap (λ xs. get_or xs c.in-Set.k dropped) c.deref-in-Set.ensures.value)
    ∙ sym (ap (λ a. renumber_statement ns (statement_of a)) c.in-Set.is))

pub renumbered_stmt-returns-in-Store : goal.renumbered_stmt-returns-in-Store
renumbered_stmt-returns-in-Store t c =
    let ns = numbers_of c.args.numbers.now in
    ok_by c.store_of.result (λ r. statement_of r) _ _ (c.store_of.ensures.tree _ _ c.renumbered_expr-i.ensures c.renumbered_expr-in-Store.ensures)
    (sym (ap (λ a. renumber_statement ns (statement_of a)) c.in-Store.is))
