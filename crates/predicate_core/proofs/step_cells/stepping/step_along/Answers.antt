use Rattle.std.proofs.Common.{ap}
use Rattle.std.proofs.lemmas.Result.{IfOk-weaker}
use Rattle.operator_cells.specs.Making.{seen}
use Rattle.predicate_core.proofs.StepCells.Nodes.{along_node}
use Rattle.predicate_core.proofs.StepCells.Standing.{along_rows}
use Rattle.predicate_core.proofs.StepCells.Points.{along_points}
use Rattle.predicate_core.proofs.step_cells.stepping.step_along.Goals as goal

pub returns-clause-steps : goal.returns-clause-steps
returns-clause-steps c = rw c.in-Some.is (IfOk-weaker c.step_on.result _ _
    (λ done s. along_node _ _ _ c.args.here.now _ _ _ _ _ _ _ _ _ _ _ _ _ _ _ (ap (λ v. v.items) c.in_ok-operate_at.ensures.ways) (ap (λ v. v.items) c.in_ok-operate_at.ensures.exits) c.requires.leads c.requires.guard (c.in_ok-operate_at.ensures.operates c.args.is_ref) s)
    c.step_on.ensures.steps)

pub returns-clause-rows : goal.returns-clause-rows
returns-clause-rows c = along_rows c.step_on.result _ _ _ c.args.here.now _ _ _ _ _ _ _ _ _ _ _ _ _ _ _ _ (ap (λ v. v.items) c.in_ok-operate_at.ensures.ways) (c.in_ok-operate_at.ensures.rows c.args.is_ref)
    (c.step_on.ensures.rows (seen c.operate_at.new.made.cells.items)) c.step_on.ensures.brought

pub returns-clause-points : goal.returns-clause-points
returns-clause-points c = along_points c.step_on.result _ _ c.args.pending.now _ _ c.args.here.now _ _ _ _ _ (ap (λ v. v.items) c.in_ok-operate_at.ensures.ways) (c.in_ok-operate_at.ensures.points c.args.is_ref) c.step_on.ensures.points
