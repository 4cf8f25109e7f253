use Rattle.std.proofs.Common.{ap, refl}
use Rattle.std.proofs.lemmas.Result.{IfOk-weaker}
use Rattle.operator_cells.specs.HeldCells.RegisterCells.{pointed}
use Rattle.predicate_core.proofs.StepCells.Nodes.{jump_brings, jump_node}
use Rattle.predicate_core.proofs.StepCells.Standing.{jump_rows, exit_rows}
use Rattle.predicate_core.proofs.StepCells.Points.{jump_points, exit_points}
use Rattle.predicate_core.proofs.step_cells.stepping.step_node.Goals as goal

pub returns-in-Jump-clause-steps : goal.returns-in-Jump-clause-steps
returns-in-Jump-clause-steps c = IfOk-weaker c.step_jump.result _ _ (λ done s. jump_node _ _ _ c.args.here.now _ _ _ _ _ _ _ _ _ _ _ _ (ap pointed c.deref.ensures.value) s) c.step_jump.ensures.steps

pub returns-in-Jump-clause-brought : goal.returns-in-Jump-clause-brought
returns-in-Jump-clause-brought c = IfOk-weaker c.step_jump.result _ _ (λ done h. jump_brings c.args.decls.now c.args.node c.args.kinds.now c.args.insn.now _ c.args.is_ref c.args.next c.args.jump _ _ c.in-Jump.is refl h) c.step_jump.ensures.brought

pub returns-in-Jump-clause-rows : goal.returns-in-Jump-clause-rows
returns-in-Jump-clause-rows c =
    jump_rows c.step_jump.result _ _ _ c.args.here.now _ _ _ _ _ _ _ _ _ _ _ _ _ _ _ _ (ap pointed c.deref.ensures.value) c.in-Jump.is c.step_jump.ensures.grows c.step_jump.ensures.rows c.step_jump.ensures.brought

pub returns-in-Ja-clause-rows : goal.returns-in-Ja-clause-rows
returns-in-Ja-clause-rows c = c.step_away.ensures.rows c.args.pending.now

pub returns-in-Exit-clause-rows : goal.returns-in-Exit-clause-rows
returns-in-Exit-clause-rows c = exit_rows c.step_exit.result _ _ _ c.args.here.now _ _ _ _ _ _ _ _ _ c.in-Exit.is

pub returns-in-Jump-clause-points : goal.returns-in-Jump-clause-points
returns-in-Jump-clause-points c = jump_points c.step_jump.result _ _ c.args.pending.now _ c.args.here.now _ _ _ _ _ _ _ _ (ap pointed c.deref.ensures.value) c.step_jump.ensures.points

pub returns-in-Ja-clause-points : goal.returns-in-Ja-clause-points
returns-in-Ja-clause-points c = c.step_away.ensures.points c.args.pending.now

pub returns-in-Exit-clause-points : goal.returns-in-Exit-clause-points
returns-in-Exit-clause-points c = IfOk-weaker c.step_exit.result _ _ (λ done x. exit_points _ _ c.args.pending.now _ c.args.here.now _ _ _ _ _ _) c.step_exit.ensures
