use Rattle.std.proofs.Common.{◌≤◌}
use Rattle.net_core.specs.declared.tree.Parts.{size-Parts}
use Rattle.net_core.proofs.+drop_parts.Given as goal

abbrev pub invariant-tree::Parts::drop-loop-self : goal.invariant-tree::Parts::drop-loop-self
invariant-tree::Parts::drop-loop-self g l = size-Parts _ l.self ≤ size-Parts _ l.fn.self
