use Rattle.unfold_core.specs.Tables.{IsLeastCrossed}
use Rattle.unfold_core.proofs.tables.least_crossed.Given as goal

abbrev pub invariant-loop-k : goal.invariant-loop-k
invariant-loop-k l = IsLeastCrossed l.loops l.k l.least
