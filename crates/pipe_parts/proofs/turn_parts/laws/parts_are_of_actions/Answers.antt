use Rattle.pipe_parts.proofs.TurnParts.Laying.{action_parts_of}
use Rattle.pipe_parts.proofs.turn_parts.laws.parts_are_of_actions.Goals as goal

pub returns : goal.returns
returns c d places l w shape b maps r is stand from answered at shown made for blocks = action_parts_of c.pipeline_planned_are_laid.ensures.sites d places l w shape b maps r is stand from answered at shown made for blocks
