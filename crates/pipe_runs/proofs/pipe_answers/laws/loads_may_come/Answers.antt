use Rattle.pipe_runs.proofs.PipeAnswers.Coming.{host_may_come, loads_may_come, opened_are_sound}
use Rattle.pipe_runs.proofs.pipe_answers.laws.loads_may_come.Goals as goal

pub returns : goal.returns
returns c = record { host = host_may_come; runs = loads_may_come c.loads_maps.ensures.traces c.loads_fit.ensures; opened = opened_are_sound c.keeps_over.ensures }
