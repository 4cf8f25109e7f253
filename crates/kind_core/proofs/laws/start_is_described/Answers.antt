use Rattle.kind_core.proofs.Described.{start_is_described}
use Rattle.kind_core.proofs.laws.start_is_described.Goals as goal

pub returns : goal.returns
returns c = start_is_described
