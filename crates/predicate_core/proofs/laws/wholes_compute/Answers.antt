use Rattle.predicate_core.proofs.Computing.{wholes_compute}
use Rattle.predicate_core.proofs.laws.wholes_compute.Goals as goal

pub returns : goal.returns
returns c = wholes_compute c.starts_in_range.ensures c.runs_leave_in_range.ensures
