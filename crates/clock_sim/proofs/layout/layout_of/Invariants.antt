use Rattle.std.proofs.Common.{drop}
use Rattle.clock_sim.proofs.LayoutLemmas.{Laying}
use Rattle.clock_sim.proofs.layout.layout_of.Given as goal

abbrev pub invariant-loop-d : goal.invariant-loop-d
invariant-loop-d l = Laying l.declared (drop l.d-index l.declared) l.layout
