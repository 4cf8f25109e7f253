use Rattle.std.proofs.Common.{◌∙◌, arith}
use Rattle.verilog_expression.proofs.LoopStepLaws.{fails_on, gives_error, gives_fault}
use Rattle.verilog_read.proofs.LoopStep.{items_end, item_fails, next_item, no_item}
use Rattle.verilog_read.proofs.sections.items.Goals as goal

pub returns-in-Some : goal.returns-in-Some
returns-in-Some c = c.loop-left.invariant.same ∙ items_end _ _ _ _ _ c.loop-left-test.true c.in-Some.ensures

pub returns-in_err-section : goal.returns-in_err-section
returns-in_err-section c =
    gives_error _ c.from_residual.result _ c.in_err-section.field-0.0 _ c.from_residual.ensures (λ e' h. h)
    (fails_on _ _ _ (λ f k. c.loop-left.invariant.same ∙ item_fails _ _ _ _ f c.loop-left-test.true c.in_default.ensures k) c.in_err-section.ensures.read)

pub loop-left-preserved : goal.loop-left-preserved
loop-left-preserved c = record {
  same = c.loop-left.invariant.same ∙ next_item _ _ _ _ _ _ _ c.loop-left-test.true c.in_default.ensures c.in_ok-section.ensures.read;
  order = c.in_ok-section.ensures.order;
}

pub returns : goal.returns
returns c = gives_fault _ c.fault.result _ _ c.fault.ensures (c.loop-left.invariant.same ∙ no_item _ _ _ _ (omega arith))
