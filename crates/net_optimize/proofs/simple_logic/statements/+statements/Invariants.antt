use Rattle.std.proofs.Common.{◌≡◌, ◌≤◌, map}
use Rattle.net_core.specs.declared.tree.Net.{Net}
use Rattle.net_core.specs.declared.tree.Stmts.{size-Stmts}
use Rattle.net_core.specs.View.{statement_of, statements_of}
use Rattle.net_core.specs.Value.{Env}
use Rattle.net_core.specs.Clock.{Stored, all_done, edge}
use Rattle.net_optimize.specs.SimpleLogic.Simple.{Hold}
use Rattle.net_optimize.proofs.simple_logic.statements.+statements.Given as goal

abbrev pub invariant-simple_stmts-loop-left : goal.invariant-simple_stmts-loop-left
invariant-simple_stmts-loop-left l = record {
  done : (v : Env Net) (s : Stored) → Hold l.facts v → all_done v (statements_of l.left) (edge v (map statement_of l.all.items) s) ≡ all_done v (statements_of l.fn.stmts) s;
  depth : size-Stmts Net l.left ≤ size-Stmts Net l.fn.stmts;
}
