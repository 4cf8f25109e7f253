use Rattle.std.proofs.Common.{◌≤◌}
use Rattle.net_core.specs.declared.tree.Net.{Net}
use Rattle.net_core.specs.declared.tree.Stmt.{size-Stmt}
use Rattle.net_core.specs.declared.tree.Stmts.{size-Stmts}
use Rattle.net_core.specs.View.{statements_of}
use Rattle.verilog_read.proofs.Raised.{Notes}
use Rattle.verilog_read.proofs.targets.+targets.Given as goal

abbrev pub decreases-note : goal.decreases-note
decreases-note l = size-Stmt Net l.stmt.now

abbrev pub decreases-note_all : goal.decreases-note_all
decreases-note_all l = size-Stmts Net l.stmts.now

abbrev pub invariant-note_all-loop-left : goal.invariant-note_all-loop-left
invariant-note_all-loop-left l = record {
  notes : Notes l.fn.targets l.targets (statements_of l.fn.stmts) (statements_of l.left);
  depth : size-Stmts Net l.left ≤ size-Stmts Net l.fn.stmts;
}
