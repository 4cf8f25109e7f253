use Rattle.std.proofs.Common.{◌≤◌}
use Rattle.net_core.specs.declared.tree.Net.{Net}
use Rattle.net_core.specs.declared.tree.Stmts.{size-Stmts}
use Rattle.register_rules.proofs.narrow_registers.bounds.Needs.+bound_statements.Given as goal

abbrev pub invariant-bound_stmts-loop-left : goal.invariant-bound_stmts-loop-left
invariant-bound_stmts-loop-left l = size-Stmts Net l.left ≤ size-Stmts Net l.fn.stmts
