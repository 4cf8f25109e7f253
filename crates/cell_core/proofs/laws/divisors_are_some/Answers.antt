use Rattle.cell_core.proofs.Values.{divisors_are_some}
use Rattle.cell_core.proofs.laws.divisors_are_some.Goals as goal

pub returns : goal.returns
returns c = divisors_are_some
