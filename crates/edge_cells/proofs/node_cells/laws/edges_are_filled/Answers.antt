use Rattle.edge_cells.proofs.NodeCells.Filled.{edges_are_filled}
use Rattle.edge_cells.proofs.node_cells.laws.edges_are_filled.Goals as goal

pub returns : goal.returns
returns c = edges_are_filled
