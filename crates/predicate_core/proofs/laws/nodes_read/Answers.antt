use Rattle.predicate_core.proofs.NodeReads.{nodes_read}
use Rattle.predicate_core.proofs.laws.nodes_read.Goals as goal

pub returns : goal.returns
returns c = nodes_read
