use Rattle.unfold_core.proofs.LinkLaws.{nodes_are_reached}
use Rattle.unfold_core.proofs.laws.nodes_are_reached.Goals as goal

pub returns : goal.returns
returns c = nodes_are_reached
