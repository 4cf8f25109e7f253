use Rattle.edge_cells.proofs.Arriving.{here_is_right}
use Rattle.edge_cells.proofs.laws.here_is_right.Goals as goal

pub returns : goal.returns
returns c = here_is_right
