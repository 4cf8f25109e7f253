use Rattle.predicate_core.proofs.FirstPoints.{opens_point}
use Rattle.predicate_core.proofs.laws.opens_point.Goals as goal

pub returns : goal.returns
returns c = opens_point
