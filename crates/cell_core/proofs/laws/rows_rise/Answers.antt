use Rattle.cell_core.proofs.Rows.{rows_rise}
use Rattle.cell_core.proofs.laws.rows_rise.Goals as goal

pub returns : goal.returns
returns c = rows_rise
