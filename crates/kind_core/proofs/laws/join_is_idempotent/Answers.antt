use Rattle.kind_core.proofs.JoinLaws.{join_is_idempotent}
use Rattle.kind_core.proofs.laws.join_is_idempotent.Goals as goal

pub returns : goal.returns
returns c = join_is_idempotent
