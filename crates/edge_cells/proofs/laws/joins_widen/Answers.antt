use Rattle.edge_cells.proofs.Widened.{joins_widen}
use Rattle.edge_cells.proofs.laws.joins_widen.Goals as goal

pub returns : goal.returns
returns c = joins_widen
