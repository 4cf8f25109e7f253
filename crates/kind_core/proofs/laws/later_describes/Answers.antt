use Rattle.kind_core.proofs.Later.{later_machine}
use Rattle.kind_core.proofs.laws.later_describes.Goals as goal

pub returns : goal.returns
returns c = later_machine
