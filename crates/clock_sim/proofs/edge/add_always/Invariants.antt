use Rattle.std.proofs.Common.{map, drop}
use Rattle.net_core.specs.View.{statement_of}
use Rattle.clock_sim.proofs.StatementLemmas.{Acting}
use Rattle.clock_sim.proofs.edge.add_always.Given as goal

abbrev pub invariant-loop-s : goal.invariant-loop-s
invariant-loop-s l = Acting l.initial.builder l.builder l.operands (map statement_of l.all) (drop l.s-index (map statement_of l.all)) l.initial.edge l.edge
