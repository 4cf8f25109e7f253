use Rattle.cell_core.proofs.Kept.{values_keep}
use Rattle.cell_core.proofs.laws.values_keep.Goals as goal

pub returns : goal.returns
returns c = values_keep
