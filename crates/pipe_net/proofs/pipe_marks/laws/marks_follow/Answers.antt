use Rattle.pipe_net.proofs.PipeMarks.FollowLemmas.{marks_follow, marks_begin}
use Rattle.pipe_net.proofs.pipe_marks.laws.marks_follow.Goals as goal

pub returns-clause-clock : goal.returns-clause-clock
returns-clause-clock c = marks_follow c.entering.ensures.stands c.entering.ensures.unmarked c.marking.ensures.stands c.marking.ensures.reads

pub returns-clause-first : goal.returns-clause-first
returns-clause-first c = marks_begin
