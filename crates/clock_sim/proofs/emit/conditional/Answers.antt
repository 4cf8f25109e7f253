use Rattle.clock_sim.proofs.OperatorLemmas.{conditional_makes}
use Rattle.clock_sim.proofs.emit.conditional.Goals as goal

pub returns-clause-makes : goal.returns-clause-makes
returns-clause-makes c =
    conditional_makes c.args.builder.now _ c.args.test c.args.a c.args.b _ _ c.from-other.ensures c.in_ok-slot.ensures.works c.requires.typed c.conditional_width-width.ensures
