use Rattle.xdp_machine.proofs.TouchLaws.{touches_one}
use Rattle.xdp_machine.proofs.laws.touches_one.Goals as goal

pub returns : goal.returns
returns c = touches_one
