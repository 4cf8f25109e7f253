use Rattle.pipe_core.proofs.Marking.{keeps_marked, always_marked}
use Rattle.pipe_core.proofs.laws.marks.Goals as goal

pub returns : goal.returns
returns c = record { clock = keeps_marked; always = always_marked }
