use Rattle.std.proofs.Common.{◌≡◌, ◌≤◌}
use Rattle.net_core.specs.declared.tree.Net.{Net}
use Rattle.net_core.specs.declared.tree.Stmts.{size-Stmts}
use Rattle.net_core.specs.View.{statements_of}
use Rattle.net_core.specs.Value.{Env}
use Rattle.net_core.specs.Clock.{Stored, all_done}
use Rattle.net_optimize.specs.Folding.{AreKnown}
use Rattle.net_optimize.specs.Lists.{joined_done}
use Rattle.net_optimize.proofs.folding.+statements.Given as goal

abbrev pub invariant-with_all-loop-left : goal.invariant-with_all-loop-left
invariant-with_all-loop-left l = record {
  done : (v : Env Net) (s : Stored) → AreKnown v l.known → all_done v (statements_of l.left) (joined_done v l.all s) ≡ all_done v (statements_of l.fn.stmts) (joined_done v l.fn.list s);
  depth : size-Stmts Net l.left ≤ size-Stmts Net l.fn.stmts;
}
