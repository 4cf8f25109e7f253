use Rattle.xdp_machine.proofs.RunLaws.{runs_keep_sizes}
use Rattle.xdp_machine.proofs.laws.runs_keep_sizes.Goals as goal

pub returns : goal.returns
returns c = runs_keep_sizes
