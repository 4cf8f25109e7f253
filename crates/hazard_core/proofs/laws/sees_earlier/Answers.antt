use Rattle.hazard_core.proofs.Seeing.{sees_earlier}
use Rattle.hazard_core.proofs.laws.sees_earlier.Goals as goal

pub returns : goal.returns
returns c = sees_earlier
