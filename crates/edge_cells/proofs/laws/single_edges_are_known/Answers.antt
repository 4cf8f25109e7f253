use Rattle.edge_cells.proofs.EdgeLaws.{single_edges_are_known}
use Rattle.edge_cells.proofs.laws.single_edges_are_known.Goals as goal

pub returns : goal.returns
returns c = single_edges_are_known c.later_describes.ensures
