use Rattle.xdp_machine.proofs.RunLaws.{has_one_answer}
use Rattle.xdp_machine.proofs.laws.has_one_answer.Goals as goal

pub returns : goal.returns
returns c = has_one_answer
