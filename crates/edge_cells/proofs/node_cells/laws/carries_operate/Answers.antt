use Rattle.edge_cells.proofs.NodeCells.Plain.{carries_operate}
use Rattle.edge_cells.proofs.node_cells.laws.carries_operate.Goals as goal

pub returns : goal.returns
returns c = carries_operate
