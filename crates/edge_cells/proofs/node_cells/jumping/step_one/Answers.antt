use Rattle.std.proofs.Common.{arith}
use Rattle.operator_cells.specs.HeldCells.RegisterCells.{pointed}
use Rattle.operator_cells.specs.HeldCells.Rows.{held_row}
use Rattle.edge_cells.proofs.NodeCells.Leaving.{one_leaves, decided_leaving}
use Rattle.edge_cells.proofs.NodeCells.Pushing.{decided_steps}
use Rattle.edge_cells.proofs.NodeCells.Holding.{decided_points}
use Rattle.edge_cells.proofs.node_cells.jumping.step_one.Goals as goal

pub returns-clause-steps : goal.returns-clause-steps
returns-clause-steps c =
    decided_steps (record { conditions = c.conditions_are_sound.ensures; tested = c.jumps_are_tested.ensures; inside = c.edges_are_inside.ensures; known = c.edges_are_known.ensures; single = c.single_edges_are_known.ensures }) _ _ _ _ _ _ _ _ _ _ _ _ _ _ _ _ c.requires.op c.requires.decided c.requires.inside c.in_ok-edge.ensures.branch c.in_ok-push.ensures.items

pub returns-clause-kept : goal.returns-clause-kept
returns-clause-kept c = (_, c.in_ok-push.ensures.items)

pub returns-clause-rows : goal.returns-clause-rows
returns-clause-rows c =
    one_leaves c.in_ok-edge.edge c.in_ok-edge.ensures.rises c.in_ok-edge.ensures.branch.held_is c.in_ok-push.ensures.items
    (λ row. omega (arith, decided_leaving (held_row row (pointed c.args.pointers.now) c.args.here.now.held c.args.kinds.now) c.args.kinds.now c.args.insn.now (row c.args.here.now.guard) c.args.width c.args.code c.args.src c.args.taken c.requires.op c.requires.decided))

pub returns-clause-grows : goal.returns-clause-grows
returns-clause-grows c = c.in_ok-edge.ensures.branch.branches.grows

pub returns-clause-points : goal.returns-clause-points
returns-clause-points c = decided_points _ _ c.requires.op c.requires.decided c.in_ok-edge.ensures.branch c.in_ok-push.ensures.items
