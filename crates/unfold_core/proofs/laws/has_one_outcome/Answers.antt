use Rattle.unfold_core.proofs.OneOutcomeLaws as one
use Rattle.unfold_core.proofs.laws.has_one_outcome.Goals as goal

pub returns : goal.returns
returns c = one.has_one_outcome
