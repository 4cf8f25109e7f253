use Rattle.hazard_core.proofs.Standing.{tables_stand}
use Rattle.hazard_core.proofs.laws.tables_stand.Goals as goal

pub returns : goal.returns
returns c = tables_stand c.index_laws.ensures
