use Rattle.predicate_core.proofs.Staying.{arrivals_stay}
use Rattle.predicate_core.proofs.laws.arrivals_stay.Goals as goal

pub returns : goal.returns
returns c = arrivals_stay
