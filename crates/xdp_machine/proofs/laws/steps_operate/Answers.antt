use Rattle.xdp_machine.proofs.StepLaws.{steps_operate}
use Rattle.xdp_machine.proofs.laws.steps_operate.Goals as goal

pub returns : goal.returns
returns c = steps_operate
