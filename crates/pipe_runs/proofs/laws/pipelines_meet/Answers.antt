use Rattle.pipe_runs.proofs.Loaded.{pipelines_meet}
use Rattle.pipe_runs.proofs.laws.pipelines_meet.Goals as goal

pub returns : goal.returns
returns c = pipelines_meet c.loads_follow.ensures.runs c.loads_follow.ensures.next c.followers_meet.ensures
