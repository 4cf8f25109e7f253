use Rattle.predicate_core.proofs.Following.{nodes_follow}
use Rattle.predicate_core.proofs.laws.nodes_follow.Goals as goal

pub returns : goal.returns
returns c = nodes_follow
