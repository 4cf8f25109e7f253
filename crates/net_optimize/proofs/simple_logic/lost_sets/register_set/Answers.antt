use Rattle.std.proofs.Common.{ap}
use Rattle.net_core.specs.View.{tree_of, statement_of}
use Rattle.net_optimize.proofs.simple_logic.lost_sets.register_set.Goals as goal

pub returns-in-Set : goal.returns-in-Set
returns-in-Set c = (tree_of c.in-Set.field-1, ap statement_of c.in-Set.is)
