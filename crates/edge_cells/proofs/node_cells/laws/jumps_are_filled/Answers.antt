use Rattle.edge_cells.proofs.NodeCells.Filled.{jumps_are_filled}
use Rattle.edge_cells.proofs.node_cells.laws.jumps_are_filled.Goals as goal

pub returns : goal.returns
returns c = jumps_are_filled
