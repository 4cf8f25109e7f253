use Rattle.hazard_core.proofs.Alike.{reads_keep}
use Rattle.hazard_core.proofs.laws.reads_keep.Goals as goal

pub returns : goal.returns
returns c = reads_keep
