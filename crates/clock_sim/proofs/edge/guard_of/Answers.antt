use Rattle.clock_sim.proofs.BuilderLemmas.{extends_none}
use Rattle.clock_sim.proofs.StatementLemmas.{guard_none, guard_some}
use Rattle.clock_sim.proofs.edge.guard_of.Goals as goal

pub returns-in_ok-slot-in-None-clause-guards : goal.returns-in_ok-slot-in-None-clause-guards
returns-in_ok-slot-in-None-clause-guards c = rw c.in-None.is (guard_none c.args.builder.now _ c.in_ok-slot-in-None.slot c.in_ok-slot-in-None.ensures.holds)

pub returns-in-Some-clause-adds : goal.returns-in-Some-clause-adds
returns-in-Some-clause-adds c = record { extends = extends_none c.args.builder.now; there = rw c.in-Some.is at c.requires.guard }

pub returns-in-Some-clause-guards : goal.returns-in-Some-clause-guards
returns-in-Some-clause-guards c = rw c.in-Some.is (guard_some c.args.builder.now c.in-Some.slot)
