use Rattle.unfold_core.proofs.NodeLaws.{nodes_are_ordered}
use Rattle.unfold_core.proofs.laws.nodes_are_ordered.Goals as goal

pub returns : goal.returns
returns c = nodes_are_ordered
