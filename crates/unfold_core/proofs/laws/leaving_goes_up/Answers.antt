use Rattle.unfold_core.proofs.EdgesUp.{leaving_goes_up}
use Rattle.unfold_core.proofs.laws.leaving_goes_up.Goals as goal

pub returns : goal.returns
returns c = leaving_goes_up
