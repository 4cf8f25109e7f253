use Rattle.edge_cells.proofs.EdgeLaws.{edges_are_inside}
use Rattle.edge_cells.proofs.laws.edges_are_inside.Goals as goal

pub returns : goal.returns
returns c = edges_are_inside
