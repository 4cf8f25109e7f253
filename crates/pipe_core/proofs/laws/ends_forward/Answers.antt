use Rattle.pipe_core.proofs.Draining.{ends_forward}
use Rattle.pipe_core.proofs.laws.ends_forward.Goals as goal

pub returns : goal.returns
returns c = ends_forward
