use Rattle.std.proofs.Common.{map, take}
use Rattle.net_core.specs.declared.tree.Net.{Net}
use Rattle.net_core.specs.View.{assign_of, wire_of}
use Rattle.net_core.specs.Value.{Env}
use Rattle.net_optimize.specs.SharedExpressions.Standing.{Stand, AreShown}
use Rattle.net_optimize.proofs.shared_expressions.statements.rewritten_assigns.Given as goal

abbrev pub invariant-loop-assign : goal.invariant-loop-assign
invariant-loop-assign l = (v u : Env Net) → Stand l.table.numbers.items (map wire_of l.table.wires.items) v u → AreShown v u (map assign_of (take l.assign-index l.assigns)) (map assign_of l.all.items)
