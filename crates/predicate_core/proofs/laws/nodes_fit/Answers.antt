use Rattle.predicate_core.proofs.NodeFits.{nodes_fit}
use Rattle.predicate_core.proofs.laws.nodes_fit.Goals as goal

pub returns : goal.returns
returns c = nodes_fit
