use Rattle.std.proofs.Common.{◌≡◌, ◌≤◌}
use Rattle.net_core.specs.declared.tree.Net.{Net}
use Rattle.net_core.specs.declared.tree.Stmt.{size-Stmt}
use Rattle.net_core.specs.declared.tree.Stmts.{size-Stmts}
use Rattle.net_core.specs.Clock.{all_done}
use Rattle.net_core.specs.View.{statements_of}
use Rattle.event_sim.specs.Views.{env_in}
use Rattle.event_sim.specs.Readable.{AreStatements}
use Rattle.event_sim.proofs.execute.+execute.Given as goal

abbrev pub decreases-execute : goal.decreases-execute
decreases-execute l = size-Stmt Net l.statement.now

abbrev pub decreases-execute_all : goal.decreases-execute_all
decreases-execute_all l = size-Stmts Net l.statements.now

abbrev pub invariant-execute_all-loop-left : goal.invariant-execute_all-loop-left
invariant-execute_all-loop-left l = record {
  less : size-Stmts Net l.left ≤ size-Stmts Net l.fn.statements;
  reads : AreStatements (env_in l.values) (statements_of l.left);
  done : all_done (env_in l.values) (statements_of l.left) l.next ≡ all_done (env_in l.values) (statements_of l.fn.statements) l.fn.next;
}
