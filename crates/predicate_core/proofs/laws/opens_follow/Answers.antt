use Rattle.predicate_core.proofs.Opened.{opens_follow}
use Rattle.predicate_core.proofs.laws.opens_follow.Goals as goal

pub returns : goal.returns
returns c = opens_follow c.start_is_described.ensures c.starts_in_range.ensures
