use Rattle.cell_core.proofs.Values.{values_fit}
use Rattle.cell_core.proofs.laws.values_fit.Goals as goal

pub returns : goal.returns
returns c = values_fit
