use Rattle.pipe_core.proofs.Meeting.{touches_what_is_read}
use Rattle.pipe_core.proofs.Changed.{changes_are_written}
use Rattle.pipe_core.proofs.laws.meeting.Goals as goal

pub returns : goal.returns
returns c = record { touches = touches_what_is_read c.maps_in_turn.ensures.reads; written = changes_are_written c.in_turn.ensures c.maps_in_turn.ensures.reads }
