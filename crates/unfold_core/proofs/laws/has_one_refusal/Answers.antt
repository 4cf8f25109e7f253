use Rattle.unfold_core.proofs.OneGraphLaws.{has_one_refusal}
use Rattle.unfold_core.proofs.laws.has_one_refusal.Goals as goal

pub returns : goal.returns
returns c = has_one_refusal
