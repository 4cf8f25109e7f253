use Rattle.operator_cells.specs.declared.joining.Arm.{Arm}
use Rattle.operator_cells.proofs.Arms.{flat_step}
use Rattle.operator_cells.proofs.joining.flat.Goals as goal

abbrev no_arm : Arm
no_arm = record { bit = 0; cell = 0 }

pub loop-arm-preserved : goal.loop-arm-preserved
loop-arm-preserved c = flat_step c.args.arms.now c.loop-arm.arm-index no_arm _ _ _ c.loop-arm-test.true c.loop-arm.invariant c.in_ok-push.ensures.ok c.in_ok-push-2.ensures.ok
