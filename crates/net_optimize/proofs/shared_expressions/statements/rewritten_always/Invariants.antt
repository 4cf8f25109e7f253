use Rattle.std.proofs.Common.{◌≡◌, map, take}
use Rattle.net_core.specs.declared.tree.Net.{Net}
use Rattle.net_core.specs.View.{statement_of, wire_of}
use Rattle.net_core.specs.Value.{Env}
use Rattle.net_core.specs.Clock.{Stored, edge}
use Rattle.net_optimize.specs.SharedExpressions.Standing.{Stand}
use Rattle.net_optimize.proofs.shared_expressions.statements.rewritten_always.Given as goal

abbrev pub invariant-loop-stmt : goal.invariant-loop-stmt
invariant-loop-stmt l = (v u : Env Net) (s : Stored) → Stand l.table.numbers.items (map wire_of l.table.wires.items) v u → edge v (map statement_of l.all.items) s ≡ edge u (map statement_of (take l.stmt-index l.always)) s
