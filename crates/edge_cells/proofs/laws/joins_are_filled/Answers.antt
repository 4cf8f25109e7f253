use Rattle.edge_cells.proofs.Widened.{joins_are_filled}
use Rattle.edge_cells.proofs.laws.joins_are_filled.Goals as goal

pub returns : goal.returns
returns c = joins_are_filled
