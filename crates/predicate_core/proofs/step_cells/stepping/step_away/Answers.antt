use Rattle.std.proofs.Common.{ap, None, Some, refl}
use Rattle.std.proofs.lemmas.Result.{IfOk-weaker}
use Rattle.operator_cells.specs.HeldCells.RegisterCells.{pointed}
use Rattle.xdp_machine.specs.bpf_isa.declared.operation.Op.TheVariants.{Ja}
use Rattle.predicate_core.proofs.StepCells.Nodes.{jump_brings, away_node}
use Rattle.predicate_core.proofs.StepCells.Standing.{away_rows}
use Rattle.predicate_core.proofs.StepCells.Points.{jump_points}
use Rattle.predicate_core.proofs.step_cells.stepping.step_away.Goals as goal

pub returns-in-Some-clause-steps : goal.returns-in-Some-clause-steps
returns-in-Some-clause-steps c = rw c.in-Some.is (IfOk-weaker c.step_always.result _ _ (λ done s. away_node _ _ _ c.args.here.now _ _ _ _ _ _ _ _ _ _ _ (ap pointed c.deref.ensures.value) s) c.step_always.ensures.steps)

pub returns-in-Some-clause-brought : goal.returns-in-Some-clause-brought
returns-in-Some-clause-brought c = rw c.in-Some.is (IfOk-weaker c.step_always.result _ _ (λ done h. jump_brings c.args.decls.now c.args.node c.args.kinds.now c.args.insn.now (Ja c.args.width) c.args.is_ref None (Some c.in-Some.to) _ _ c.requires.op refl h) c.step_always.ensures.brought)

pub returns-in-Some-clause-rows : goal.returns-in-Some-clause-rows
returns-in-Some-clause-rows c = λ pending.
    away_rows c.step_always.result _ _ _ c.args.here.now _ _ pending _ _ _ _ _ _ _ _ _ _ (ap pointed c.deref.ensures.value) c.requires.op c.step_always.ensures.grows c.step_always.ensures.rows c.step_always.ensures.brought

pub returns-in-Some-clause-points : goal.returns-in-Some-clause-points
returns-in-Some-clause-points c = λ pending. jump_points c.step_always.result _ _ pending _ c.args.here.now _ _ _ _ _ _ _ _ (ap pointed c.deref.ensures.value) c.step_always.ensures.points
