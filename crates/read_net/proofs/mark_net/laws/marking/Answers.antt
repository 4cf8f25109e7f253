use Rattle.read_net.proofs.MarkNet.StandingLemmas.{marking_stands, marks_reads_alone}
use Rattle.read_net.proofs.mark_net.laws.marking.Goals as goal

pub returns : goal.returns
returns c = record { stands = marking_stands; reads = marks_reads_alone }
