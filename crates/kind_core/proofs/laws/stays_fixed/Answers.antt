use Rattle.kind_core.proofs.FixedLaws.{stays_fixed}
use Rattle.kind_core.proofs.laws.stays_fixed.Goals as goal

pub returns : goal.returns
returns c = stays_fixed
