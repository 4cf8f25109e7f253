use Rattle.xdp_machine.proofs.ChangeLaws.{steps_change_only}
use Rattle.xdp_machine.proofs.laws.steps_change_only.Goals as goal

pub returns : goal.returns
returns c = steps_change_only
