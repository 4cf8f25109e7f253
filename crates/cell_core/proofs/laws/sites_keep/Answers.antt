use Rattle.cell_core.proofs.Kept.{sites_keep}
use Rattle.cell_core.proofs.laws.sites_keep.Goals as goal

pub returns : goal.returns
returns c = sites_keep
