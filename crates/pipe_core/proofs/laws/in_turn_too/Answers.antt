use Rattle.pipe_core.proofs.Midst.{in_turn_too}
use Rattle.pipe_core.proofs.laws.in_turn_too.Goals as goal

pub returns : goal.returns
returns c = in_turn_too c.runs_rest.ensures.elsewhere c.runs_rest.ensures.complete c.values_keep.ensures
