use Rattle.edge_cells.proofs.EdgeKnown.{jumps_are_tested}
use Rattle.edge_cells.proofs.laws.jumps_are_tested.Goals as goal

pub returns : goal.returns
returns c = jumps_are_tested
