use Rattle.kind_core.proofs.JoinOrder.{join_is_associative}
use Rattle.kind_core.proofs.laws.join_is_associative.Goals as goal

pub returns : goal.returns
returns c = join_is_associative
