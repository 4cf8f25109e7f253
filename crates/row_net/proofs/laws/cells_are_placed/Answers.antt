use Rattle.row_net.proofs.PlaceLemmas.{cells_placed}
use Rattle.row_net.proofs.laws.cells_are_placed.Goals as goal

pub returns : goal.returns
returns c = cells_placed c.rows_rise.ensures
