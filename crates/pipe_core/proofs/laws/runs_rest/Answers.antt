use Rattle.pipe_core.proofs.Resting.{runs_elsewhere, runs_complete}
use Rattle.pipe_core.proofs.laws.runs_rest.Goals as goal

pub returns : goal.returns
returns c = record { elsewhere = runs_elsewhere; complete = runs_complete c.values_keep.ensures }
