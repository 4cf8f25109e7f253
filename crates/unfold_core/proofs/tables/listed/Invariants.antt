use Rattle.unfold_core.specs.Tables.{AreListed}
use Rattle.unfold_core.proofs.tables.listed.Given as goal

abbrev pub invariant-loop-head : goal.invariant-loop-head
invariant-loop-head l = AreListed l.last l.head l.loops.items
