use Rattle.pipe_core.proofs.Unread.{reads_nothing_written}
use Rattle.pipe_core.proofs.laws.unread.Goals as goal

pub returns : goal.returns
returns c = reads_nothing_written c.sees_earlier.ensures c.maps_in_turn.ensures.maps c.ahead.ensures.commits c.runs_rest.ensures.complete c.in_turn_too.ensures c.values_keep.ensures
