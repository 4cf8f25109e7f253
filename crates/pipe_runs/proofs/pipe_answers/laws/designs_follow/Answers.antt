use Rattle.pipe_runs.proofs.PipeAnswers.Following.{designs_follow, designs_show}
use Rattle.pipe_runs.proofs.pipe_answers.laws.designs_follow.Goals as goal

pub returns : goal.returns
returns c = record {
  runs = designs_follow c.loads_are_right.ensures.runs c.loads_may_come.ensures.runs c.loads_maps.ensures.traces;
  next = designs_show c.loads_are_right.ensures.runs c.loads_may_come.ensures.runs c.loads_maps.ensures.traces;
}
