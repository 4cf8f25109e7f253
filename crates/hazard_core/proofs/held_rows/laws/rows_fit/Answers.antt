use Rattle.hazard_core.proofs.HeldRows.Fitting.{begins_fit, rows_fit, more_fit}
use Rattle.hazard_core.proofs.held_rows.laws.rows_fit.Goals as goal

pub returns : goal.returns
returns c = record { begins = begins_fit; rows = rows_fit; more = more_fit }
