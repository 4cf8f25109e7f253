use Rattle.std.proofs.Common.{◌≤◌}
use Rattle.net_core.specs.declared.tree.Stmts.{size-Stmts}
use Rattle.net_core.proofs.+drop_statements.Given as goal

abbrev pub invariant-tree::Stmts::drop-loop-self : goal.invariant-tree::Stmts::drop-loop-self
invariant-tree::Stmts::drop-loop-self g l = size-Stmts _ l.self ≤ size-Stmts _ l.fn.self
