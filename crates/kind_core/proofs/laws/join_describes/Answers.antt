use Rattle.kind_core.proofs.Described.{join_describes}
use Rattle.kind_core.proofs.laws.join_describes.Goals as goal

pub returns : goal.returns
returns c = join_describes
