use Rattle.clock_sim.proofs.OperatorLemmas.{not_makes, reduce_or_makes}
use Rattle.clock_sim.proofs.emit.apply_unary.Goals as goal

pub returns-in_ok-slot-in-Not-clause-makes : goal.returns-in_ok-slot-in-Not-clause-makes
returns-in_ok-slot-in-Not-clause-makes c = rw c.in-Not.is (not_makes c.args.builder.now _ c.args.a _ _ _ c.in_ok-slot-in-Not.ensures.works c.greatest-mask.ensures (rw c.in-Not.is at c.unary_width-width.ensures))

pub returns-in_ok-slot-in-ReduceOr-clause-makes : goal.returns-in_ok-slot-in-ReduceOr-clause-makes
returns-in_ok-slot-in-ReduceOr-clause-makes c = rw c.in-ReduceOr.is (reduce_or_makes c.args.builder.now _ c.args.a _ _ _ c.in_ok-slot-in-ReduceOr.ensures.works (rw c.in-ReduceOr.is at c.unary_width-width.ensures))
