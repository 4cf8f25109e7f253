use Rattle.xdp_object.proofs.OutcomeLaws.{one_outcome}
use Rattle.xdp_object.proofs.laws.one_outcome.Goals as goal

pub returns : goal.returns
returns c = one_outcome
