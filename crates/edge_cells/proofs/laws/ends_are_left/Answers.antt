use Rattle.edge_cells.proofs.EdgeKnown.{ends_are_left}
use Rattle.edge_cells.proofs.laws.ends_are_left.Goals as goal

pub returns : goal.returns
returns c = ends_are_left
