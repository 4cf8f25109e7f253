use Rattle.clock_sim.proofs.BuilderLemmas.{extends_none}
use Rattle.clock_sim.proofs.StatementLemmas.{pick_none, pick_some}
use Rattle.clock_sim.proofs.edge.picked.Goals as goal

pub returns-in-None-clause-adds : goal.returns-in-None-clause-adds
returns-in-None-clause-adds c = record { extends = extends_none c.args.builder.now; there = c.requires.first }

pub returns-in-None-clause-picks : goal.returns-in-None-clause-picks
returns-in-None-clause-picks c = rw c.in-None.is (pick_none c.args.builder.now c.args.first c.args.second)

pub returns-in_ok-slot-in-Some-clause-picks : goal.returns-in_ok-slot-in-Some-clause-picks
returns-in_ok-slot-in-Some-clause-picks c = rw c.in-Some.is (pick_some c.args.builder.now _ c.in-Some.test c.args.first c.args.second _ _ c.from-other.ensures c.in_ok-slot-in-Some.ensures.works)
