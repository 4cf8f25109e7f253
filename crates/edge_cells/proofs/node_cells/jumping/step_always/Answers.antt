use Rattle.std.proofs.Common.{arith}
use Rattle.edge_cells.proofs.NodeCells.Leaving.{one_leaves}
use Rattle.edge_cells.proofs.NodeCells.Pushing.{always_steps}
use Rattle.edge_cells.proofs.NodeCells.Holding.{always_points}
use Rattle.edge_cells.proofs.node_cells.jumping.step_always.Goals as goal

pub returns-clause-steps : goal.returns-clause-steps
returns-clause-steps c =
    always_steps (record { conditions = c.conditions_are_sound.ensures; tested = c.jumps_are_tested.ensures; inside = c.edges_are_inside.ensures; known = c.edges_are_known.ensures; single = c.single_edges_are_known.ensures }) _ _ _ _ _ _ _ _ _ _ _ _ _ c.requires.op c.requires.inside c.in_ok-edge.ensures.branch c.in_ok-push.ensures.items

pub returns-clause-kept : goal.returns-clause-kept
returns-clause-kept c = (_, c.in_ok-push.ensures.items)

pub returns-clause-rows : goal.returns-clause-rows
returns-clause-rows c = one_leaves c.in_ok-edge.edge c.in_ok-edge.ensures.rises c.in_ok-edge.ensures.branch.held_is c.in_ok-push.ensures.items (λ row. omega arith)

pub returns-clause-grows : goal.returns-clause-grows
returns-clause-grows c = c.in_ok-edge.ensures.branch.branches.grows

pub returns-clause-points : goal.returns-clause-points
returns-clause-points c = always_points _ _ c.requires.op c.in_ok-edge.ensures.branch c.in_ok-push.ensures.items
