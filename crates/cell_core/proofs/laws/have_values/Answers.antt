use Rattle.cell_core.proofs.Values.{have_values}
use Rattle.cell_core.proofs.laws.have_values.Goals as goal

pub returns : goal.returns
returns c = have_values
