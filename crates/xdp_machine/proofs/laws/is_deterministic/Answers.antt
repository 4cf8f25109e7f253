use Rattle.xdp_machine.proofs.RunLaws.{is_deterministic}
use Rattle.xdp_machine.proofs.laws.is_deterministic.Goals as goal

pub returns : goal.returns
returns c = is_deterministic
