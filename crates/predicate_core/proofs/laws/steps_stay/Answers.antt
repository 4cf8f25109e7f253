use Rattle.predicate_core.proofs.Staying.{steps_stay}
use Rattle.predicate_core.proofs.laws.steps_stay.Goals as goal

pub returns : goal.returns
returns c = steps_stay
