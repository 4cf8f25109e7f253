use Rattle.std.proofs.Common.{ℕ, ◌<◌}
use Rattle.cover_core.specs.Cover.{IsCovered}
use Rattle.cover_core.proofs.covering.are_covered.Given as goal

abbrev pub invariant-loop-node : goal.invariant-loop-node
invariant-loop-node l = (n : ℕ) → n < l.node → IsCovered l.a l.b l.unfolded l.origin n
