use Rattle.unfold_core.proofs.JoinedLaws.{kinds_are_joined}
use Rattle.unfold_core.proofs.laws.kinds_are_joined.Goals as goal

pub returns : goal.returns
returns c = kinds_are_joined
