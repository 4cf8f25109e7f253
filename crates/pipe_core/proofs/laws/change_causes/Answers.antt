use Rattle.pipe_core.proofs.Blaming.{keeps_change_causes, begins_change_causes}
use Rattle.pipe_core.proofs.laws.change_causes.Goals as goal

pub returns : goal.returns
returns c = record { clock = keeps_change_causes c.in_turn.ensures c.sees_earlier.ensures c.meeting.ensures.written; begins = begins_change_causes }
