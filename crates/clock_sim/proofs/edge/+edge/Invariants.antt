use Rattle.std.proofs.Common.{◌≤◌}
use Rattle.net_core.specs.declared.tree.Net.{Net}
use Rattle.net_core.specs.declared.tree.Stmt.{size-Stmt}
use Rattle.net_core.specs.declared.tree.Stmts.{size-Stmts}
use Rattle.net_core.specs.View.{statements_of}
use Rattle.clock_sim.proofs.StatementLemmas.{Executing}
use Rattle.clock_sim.proofs.edge.+edge.Given as goal

abbrev pub decreases-add_statement : goal.decreases-add_statement
decreases-add_statement l = size-Stmt Net l.s.now

abbrev pub decreases-add_statements : goal.decreases-add_statements
decreases-add_statements l = size-Stmts Net l.more.now

abbrev pub invariant-add_statements-loop-left : goal.invariant-add_statements-loop-left
invariant-add_statements-loop-left l = record {
  less : size-Stmts Net l.left ≤ size-Stmts Net l.fn.more;
  done : Executing l.operands l.guard (statements_of l.fn.more) (statements_of l.left) l.fn.builder l.builder l.fn.edge l.edge;
}
