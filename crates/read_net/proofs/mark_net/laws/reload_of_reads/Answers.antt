use Rattle.read_net.proofs.MarkNet.StandingLemmas.{reload_of_reads}
use Rattle.read_net.proofs.mark_net.laws.reload_of_reads.Goals as goal

pub returns : goal.returns
returns c = reload_of_reads
