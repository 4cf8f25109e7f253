use Rattle.read_net.proofs.MarkNet.StandingLemmas.{entering_stands, enters_unmarked}
use Rattle.read_net.proofs.mark_net.laws.entering.Goals as goal

pub returns : goal.returns
returns c = record { stands = entering_stands; unmarked = enters_unmarked }
