use Rattle.pipe_core.proofs.Reload.{nothing_must_reload}
use Rattle.pipe_core.proofs.laws.nothing_must_reload.Goals as goal

pub returns : goal.returns
returns c = nothing_must_reload c.meeting.ensures.touches c.sees_earlier.ensures c.maps_in_turn.ensures.reads c.reads_keep.ensures c.rows_rise.ensures c.unread.ensures
