use Rattle.unfold_core.proofs.KnownOn.{first_is_start}
use Rattle.unfold_core.proofs.laws.start_is_first.Goals as goal

pub returns : goal.returns
returns c = first_is_start
