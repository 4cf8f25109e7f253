use Rattle.unfold_core.proofs.NodeLaws.{start_is_node}
use Rattle.unfold_core.proofs.laws.start_is_node.Goals as goal

pub returns : goal.returns
returns c = start_is_node
