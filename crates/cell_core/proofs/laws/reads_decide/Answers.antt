use Rattle.cell_core.proofs.Values.{reads_decide}
use Rattle.cell_core.proofs.laws.reads_decide.Goals as goal

pub returns : goal.returns
returns c = reads_decide
