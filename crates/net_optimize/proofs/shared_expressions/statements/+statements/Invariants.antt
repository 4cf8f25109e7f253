use Rattle.std.proofs.Common.{◌≡◌, ◌≤◌, map}
use Rattle.net_core.specs.declared.tree.Net.{Net}
use Rattle.net_core.specs.declared.tree.Stmts.{size-Stmts}
use Rattle.net_core.specs.View.{statement_of, statements_of, wire_of}
use Rattle.net_core.specs.Value.{Env}
use Rattle.net_core.specs.Clock.{Stored, all_done, edge}
use Rattle.net_optimize.specs.SharedExpressions.Standing.{Stand}
use Rattle.net_optimize.proofs.shared_expressions.statements.+statements.Given as goal

abbrev pub invariant-rewritten_stmts-loop-left : goal.invariant-rewritten_stmts-loop-left
invariant-rewritten_stmts-loop-left l = record {
  done : (v u : Env Net) (s : Stored) → Stand l.table.numbers.items (map wire_of l.table.wires.items) v u
      → all_done u (statements_of l.left) (edge v (map statement_of l.all.items) s) ≡ all_done u (statements_of l.fn.stmts) s;
  depth : size-Stmts Net l.left ≤ size-Stmts Net l.fn.stmts;
}
