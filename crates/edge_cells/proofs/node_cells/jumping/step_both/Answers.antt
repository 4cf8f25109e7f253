use Rattle.std.proofs.Common.{arith}
use Rattle.operator_cells.specs.HeldCells.RegisterCells.{pointed}
use Rattle.operator_cells.specs.HeldCells.Rows.{held_row}
use Rattle.edge_cells.proofs.NodeCells.Leaving.{two_leave, undecided_leaving}
use Rattle.operator_cells.proofs.MakingLaws.{grown}
use Rattle.edge_cells.proofs.NodeCells.Pushing.{two_pushed, both_steps}
use Rattle.edge_cells.proofs.NodeCells.Holding.{both_points}
use Rattle.edge_cells.proofs.node_cells.jumping.step_both.Goals as goal

pub returns-clause-steps : goal.returns-clause-steps
returns-clause-steps c =
    both_steps (record { conditions = c.conditions_are_sound.ensures; tested = c.jumps_are_tested.ensures; inside = c.edges_are_inside.ensures; known = c.edges_are_known.ensures; single = c.single_edges_are_known.ensures }) _ _ _ _ _ _ _ _ _ _ _ _ _ _ _ _ _ _ _ _ c.requires.insn c.requires.op c.requires.inside c.in_ok-c.ensures.tests c.in_ok-along.ensures.branch c.in_ok-aside.ensures.branch
    (two_pushed _ _ _ _ _ c.in_ok-push.ensures.items c.in_ok-push-2.ensures.items)

pub returns-clause-kept : goal.returns-clause-kept
returns-clause-kept c = (_, two_pushed _ _ _ _ _ c.in_ok-push.ensures.items c.in_ok-push-2.ensures.items)

pub returns-clause-rows : goal.returns-clause-rows
returns-clause-rows c =
    two_leave c.args.here.now.guard c.in_ok-along.along c.in_ok-aside.aside c.in_ok-c.ensures.rises c.in_ok-along.ensures.rises c.in_ok-aside.ensures.rises c.in_ok-along.ensures.branch.held_is c.in_ok-aside.ensures.branch.held_is (two_pushed _ _ _ _ _ c.in_ok-push.ensures.items c.in_ok-push-2.ensures.items)
    (λ row. omega (arith, undecided_leaving (held_row row (pointed c.args.pointers.now) c.args.here.now.held c.args.kinds.now) c.args.kinds.now c.args.insn.now (row c.args.here.now.guard) c.args.width c.args.code c.args.src c.requires.op c.requires.undecided))

pub returns-clause-grows : goal.returns-clause-grows
returns-clause-grows c = grown c.in_ok-c.ensures.tests.grows (grown c.in_ok-along.ensures.branch.branches.grows c.in_ok-aside.ensures.branch.branches.grows)

pub returns-clause-points : goal.returns-clause-points
returns-clause-points c = both_points _ _ c.requires.op c.requires.insn.dst_register c.requires.insn.src_register c.in_ok-c.ensures.tests c.in_ok-along.ensures.branch c.in_ok-aside.ensures.branch
    (two_pushed _ _ _ _ _ c.in_ok-push.ensures.items c.in_ok-push-2.ensures.items)
