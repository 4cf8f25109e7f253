use Rattle.unfold_core.proofs.OneGraphLaws.{has_not_both}
use Rattle.unfold_core.proofs.laws.has_not_both.Goals as goal

pub returns : goal.returns
returns c = has_not_both
