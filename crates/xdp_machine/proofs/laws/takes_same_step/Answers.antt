use Rattle.xdp_machine.proofs.TouchLaws.{takes_same_step}
use Rattle.xdp_machine.proofs.laws.takes_same_step.Goals as goal

pub returns : goal.returns
returns c = takes_same_step
