use Rattle.pipe_core.proofs.Agreed.{keeps_agreed, paths_are_made}
use Rattle.pipe_core.proofs.laws.agreed.Goals as goal

pub returns : goal.returns
returns c = record { clock = keeps_agreed c.agreement.ensures.entering c.agreement.ensures.marking c.changes.ensures.commits; path = paths_are_made }
