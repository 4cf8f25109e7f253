use Rattle.clock_sim.proofs.OperatorLemmas.{binary_makes}
use Rattle.clock_sim.proofs.emit.binary.Goals as goal

pub returns-clause-makes : goal.returns-clause-makes
returns-clause-makes c =
    binary_makes c.args.op c.args.builder.now _ c.args.a c.args.b _ _ _ _ _ c.in_ok-slot.ensures.works c.opcode_of.ensures c.ordered-x.ensures.first c.ordered-x.ensures.second c.greatest-mask.ensures c.requires.typed
    c.op_width-width.ensures
