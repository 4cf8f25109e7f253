use Rattle.pipe_net.proofs.PipeMarks.ShownLemmas.{reloads_are_shown}
use Rattle.pipe_net.proofs.pipe_marks.laws.reloads_are_shown.Goals as goal

pub returns : goal.returns
returns c = reloads_are_shown c.reload_of_reads.ensures
