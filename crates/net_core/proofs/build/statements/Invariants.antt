use Rattle.std.proofs.Common.{◌≡◌, map, length}
use Rattle.net_core.specs.Nets.{SEnd}
use Rattle.net_core.specs.View.{statement_of, statements_of}
use Rattle.net_core.specs.Chains.{statements_before}
use Rattle.net_core.proofs.build.statements.Given as goal

abbrev pub invariant-loop-first : goal.invariant-loop-first
invariant-loop-first g l = statements_before (map statement_of l.prefix.items) (statements_of l.list) ≡ statements_before (map statement_of l.fn.prefix.items) SEnd

abbrev pub decreases-loop-first : goal.decreases-loop-first
decreases-loop-first g l = length l.prefix.items
