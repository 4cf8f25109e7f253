use Rattle.edge_cells.proofs.EdgeLaws.{edges_are_known}
use Rattle.edge_cells.proofs.laws.edges_are_known.Goals as goal

pub returns : goal.returns
returns c = edges_are_known c.conditions_are_sound.ensures c.later_describes.ensures
