use Rattle.hazard_core.proofs.Loading.{loads_tables}
use Rattle.hazard_core.proofs.laws.loads_tables.Goals as goal

pub returns : goal.returns
returns c = loads_tables c.index_laws.ensures
