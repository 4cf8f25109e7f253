use Rattle.clock_sim.proofs.BuilderLemmas.{extends_none}
use Rattle.clock_sim.proofs.StatementLemmas.{both_none, both_some}
use Rattle.clock_sim.proofs.edge.both.Goals as goal

pub returns-in-None-clause-adds : goal.returns-in-None-clause-adds
returns-in-None-clause-adds c = record { extends = extends_none c.args.builder.now; there = c.requires.test }

pub returns-in-None-clause-guards : goal.returns-in-None-clause-guards
returns-in-None-clause-guards c = rw c.in-None.is (both_none c.args.builder.now c.args.test)

pub returns-in_ok-slot-in-Some-clause-guards : goal.returns-in_ok-slot-in-Some-clause-guards
returns-in_ok-slot-in-Some-clause-guards c = rw c.in-Some.is (both_some c.args.builder.now _ c.in-Some.outer c.args.test _ _ c.from-zero.ensures c.in_ok-slot-in-Some.ensures.works)
