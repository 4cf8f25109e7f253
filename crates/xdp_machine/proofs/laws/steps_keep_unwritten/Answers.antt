use Rattle.xdp_machine.proofs.TouchLaws.{steps_keep_unwritten}
use Rattle.xdp_machine.proofs.laws.steps_keep_unwritten.Goals as goal

pub returns : goal.returns
returns c = steps_keep_unwritten
