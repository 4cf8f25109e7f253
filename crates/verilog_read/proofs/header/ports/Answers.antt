use Rattle.std.proofs.Common.{◌∙◌, arith}
use Rattle.verilog_expression.proofs.LoopStepLaws.{fails_on, gives_error, gives_fault}
use Rattle.verilog_read.proofs.LoopStep.{port_fails, last_port, next_port, no_port}
use Rattle.verilog_read.proofs.header.ports.Goals as goal

pub returns-in_err-partial-clause-read : goal.returns-in_err-partial-clause-read
returns-in_err-partial-clause-read c =
    gives_error _ c.from_residual.result _ c.in_err-partial.field-0.0 _ c.from_residual.ensures (λ e' h. h)
    (fails_on _ _ _ (λ f k. c.loop-left.invariant.same ∙ port_fails _ _ _ f c.loop-left-test.true k) c.in_err-partial.ensures.read)

pub returns-in-None-clause-read : goal.returns-in-None-clause-read
returns-in-None-clause-read c = c.loop-left.invariant.same ∙ last_port _ _ _ _ _ c.loop-left-test.true c.in_ok-partial.ensures.read c.in-None.ensures

pub loop-left-preserved : goal.loop-left-preserved
loop-left-preserved c = record {
  same = c.loop-left.invariant.same ∙ next_port _ _ _ _ _ _ c.loop-left-test.true c.in_ok-partial.ensures.read c.in-Some.ensures;
  only = c.in_ok-partial.ensures.only;
}

pub returns-clause-read : goal.returns-clause-read
returns-clause-read c = gives_fault _ c.fault.result _ _ c.fault.ensures (c.loop-left.invariant.same ∙ no_port _ _ _ (omega arith))
