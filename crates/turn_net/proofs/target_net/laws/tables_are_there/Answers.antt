use Rattle.turn_net.proofs.TargetNet.TableLemmas.{tables_there}
use Rattle.turn_net.proofs.target_net.laws.tables_are_there.Goals as goal

pub returns : goal.returns
returns c = tables_there c.keeps_over.ensures c.loads_tables.ensures
