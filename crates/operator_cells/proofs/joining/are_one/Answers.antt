use Rattle.std.proofs.Common.{◌≡◌, arith}
use Rattle.operator_cells.proofs.Arms.{all_more}
use Rattle.operator_cells.proofs.joining.are_one.Goals as goal

pub loop-arm-preserved : goal.loop-arm-preserved
loop-arm-preserved c = all_more (λ a. a.cell ≡ c.args.cell) c.args.arms.now c.loop-arm.arm-index _ c.loop-arm-test.true c.if-arm-cell.false c.loop-arm.invariant

pub returns-clause-all : goal.returns-clause-all
returns-clause-all c = λ t i d l. c.loop-arm.invariant i d (omega (arith, l, c.loop-arm-test.false))
