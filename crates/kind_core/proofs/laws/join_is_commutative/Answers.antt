use Rattle.kind_core.proofs.JoinLaws.{join_is_commutative}
use Rattle.kind_core.proofs.laws.join_is_commutative.Goals as goal

pub returns : goal.returns
returns c = join_is_commutative
