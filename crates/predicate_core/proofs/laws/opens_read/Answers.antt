use Rattle.predicate_core.proofs.FirstReads.{opens_read}
use Rattle.predicate_core.proofs.laws.opens_read.Goals as goal

pub returns : goal.returns
returns c = opens_read
