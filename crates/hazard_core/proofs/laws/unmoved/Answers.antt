use Rattle.hazard_core.proofs.Unmoved.{unmoved}
use Rattle.hazard_core.proofs.laws.unmoved.Goals as goal

pub returns : goal.returns
returns c = unmoved
