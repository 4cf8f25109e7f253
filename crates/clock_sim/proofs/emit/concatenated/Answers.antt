use Rattle.clock_sim.proofs.OperatorLemmas.{concatenation_makes}
use Rattle.clock_sim.proofs.emit.concatenated.Goals as goal

pub returns-clause-makes : goal.returns-clause-makes
returns-clause-makes c =
    concatenation_makes c.args.builder.now _ c.args.left c.args.right _ _ c.in_ok-slot.ensures.works c.requires.typed c.concatenation_width-width.ensures
