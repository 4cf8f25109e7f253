use Rattle.std.proofs.Common.{◌∙◌}
use Rattle.verilog_expression.proofs.LoopStepLaws.{fails_on, gives_error}
use Rattle.verilog_read.proofs.LoopStep.{part_passes, part_fails, no_part}
use Rattle.verilog_read.proofs.memory.all_parts.Goals as goal

pub returns-in_err-after : goal.returns-in_err-after
returns-in_err-after c =
    gives_error _ c.from_residual.result _ c.in_err-after.field-0.0 _ c.from_residual.ensures (λ e' h. h)
    (fails_on _ _ _ (λ f k. c.loop-part.invariant ∙ part_fails _ _ _ _ f c.loop-part-test.true k) c.in_err-after.ensures)

pub loop-part-preserved : goal.loop-part-preserved
loop-part-preserved c = c.loop-part.invariant ∙ part_passes _ _ _ _ _ c.loop-part-test.true c.in_ok-after.ensures

pub returns : goal.returns
returns c = c.loop-part.invariant ∙ no_part _ _ _ c.loop-part-test.false
