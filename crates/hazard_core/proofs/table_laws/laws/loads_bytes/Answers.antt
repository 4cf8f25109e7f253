use Rattle.hazard_core.proofs.TableLaws.Loading.{loads_bytes}
use Rattle.hazard_core.proofs.table_laws.laws.loads_bytes.Goals as goal

pub returns : goal.returns
returns c = loads_bytes c.index_laws.ensures c.pair_laws.ensures c.loads_tables.ensures
