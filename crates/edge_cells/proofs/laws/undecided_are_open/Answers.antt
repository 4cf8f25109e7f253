use Rattle.edge_cells.proofs.Undecided.{undecided_are_open}
use Rattle.edge_cells.proofs.laws.undecided_are_open.Goals as goal

pub returns : goal.returns
returns c = undecided_are_open
