use Rattle.pipe_core.proofs.Pointing.{keeps_points}
use Rattle.pipe_core.proofs.points.points.Goals as goal

pub returns : goal.returns
returns c =
    keeps_points c.in_order.ensures.clock c.computed.ensures.clock c.marks.ensures.clock c.right.ensures.clock c.runs_in_turn.ensures.clock c.ahead.ensures.now c.change_causes.ensures.clock c.found.ensures.clock
