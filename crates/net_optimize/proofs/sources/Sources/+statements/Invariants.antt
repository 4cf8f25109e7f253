use Rattle.std.proofs.Common.{◌≤◌}
use Rattle.net_core.specs.declared.tree.Net.{Net}
use Rattle.net_core.specs.declared.tree.Stmts.{size-Stmts}
use Rattle.net_optimize.proofs.sources.Sources.+statements.Given as goal

abbrev pub invariant-add_all-loop-left : goal.invariant-add_all-loop-left
invariant-add_all-loop-left l = size-Stmts Net l.left ≤ size-Stmts Net l.fn.stmts
