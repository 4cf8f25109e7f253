use Rattle.clock_sim.proofs.StatementLemmas.{opposes}
use Rattle.clock_sim.proofs.edge.opposite.Goals as goal

pub returns-clause-opposes : goal.returns-clause-opposes
returns-clause-opposes c = opposes c.args.builder.now _ c.args.test _ _ c.in_ok-slot.ensures.works
