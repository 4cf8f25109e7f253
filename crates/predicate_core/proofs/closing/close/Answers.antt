use Rattle.predicate_core.proofs.Closed.{answered}
use Rattle.predicate_core.proofs.closing.close.Goals as goal

pub returns : goal.returns
returns c = answered _ _ _ _ _ _ _ _ _ c.in_ok-verdict.ensures c.in_ok-target.ensures c.in_ok-frame.ensures
