use Rattle.unfold_core.proofs.NodeLaws.{edges_reach_nodes}
use Rattle.unfold_core.proofs.laws.edges_reach_nodes.Goals as goal

pub returns : goal.returns
returns c = edges_reach_nodes
