use Rattle.edge_cells.proofs.NodeCells.Pushing.{exit_steps}
use Rattle.edge_cells.proofs.node_cells.ending.step_exit.Goals as goal

pub returns : goal.returns
returns c =
    exit_steps c.steps_are_sound.ensures c.ends_are_left.ensures _ _ _ _ _ (record { guard_is = c.leave_exit.ensures.guard; verdict_is = c.leave_exit.ensures.verdict; held_is = c.leave_exit.ensures.held }) c.in_ok-push.ensures.items
