use Rattle.edge_cells.proofs.Operands.{operands_are_ready}
use Rattle.edge_cells.proofs.laws.operands_are_ready.Goals as goal

pub returns : goal.returns
returns c = operands_are_ready
