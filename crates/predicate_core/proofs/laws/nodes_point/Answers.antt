use Rattle.predicate_core.proofs.NodePoints.{nodes_point}
use Rattle.predicate_core.proofs.laws.nodes_point.Goals as goal

pub returns : goal.returns
returns c = nodes_point
