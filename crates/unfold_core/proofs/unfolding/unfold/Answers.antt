use Rattle.unfold_core.proofs.OneOutcomeLaws.{accepted, exactly}
use Rattle.unfold_core.proofs.unfolding.unfold.Goals as goal

pub returns-clause-refused : goal.returns-clause-refused
returns-clause-refused c = exactly c.args.offsets c.args.program.now c.unfold_parts.result c.unfold_parts.ensures

pub returns-clause-accepted : goal.returns-clause-accepted
returns-clause-accepted c = accepted c.args.offsets c.args.program.now c.unfold_parts.result c.unfold_parts.ensures
