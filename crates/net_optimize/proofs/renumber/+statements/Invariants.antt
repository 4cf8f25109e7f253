use Rattle.std.proofs.Common.{◌≡◌, ◌≤◌, map}
use Rattle.net_core.specs.declared.tree.Stmt.{size-Stmt}
use Rattle.net_core.specs.declared.tree.Stmts.{size-Stmts}
use Rattle.net_core.specs.View.{statement_of, statements_of}
use Rattle.net_core.specs.Chains.{statements_before}
use Rattle.net_optimize.specs.Renumber.{numbers_of, renumber_statements}
use Rattle.net_optimize.proofs.renumber.+statements.Given as goal

abbrev pub decreases-renumbered_stmt : goal.decreases-renumbered_stmt
decreases-renumbered_stmt l = size-Stmt _ l.stmt.now

abbrev pub decreases-renumbered_stmts : goal.decreases-renumbered_stmts
decreases-renumbered_stmts l = size-Stmts _ l.stmts.now

abbrev pub invariant-renumbered_stmts-loop-left : goal.invariant-renumbered_stmts-loop-left
invariant-renumbered_stmts-loop-left l = record {
  done : statements_before (map statement_of l.prefix.items) (renumber_statements (numbers_of l.numbers) (statements_of l.left)) ≡ renumber_statements (numbers_of l.numbers) (statements_of l.fn.stmts);
  depth : size-Stmts _ l.left ≤ size-Stmts _ l.fn.stmts;
}
