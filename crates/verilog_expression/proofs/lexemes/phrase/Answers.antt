use Rattle.std.proofs.Common.{◌∙◌}
use Rattle.verilog_expression.proofs.LoopStepLaws.{fails_on, gives_error, lexeme_passes, lexeme_fails, no_lexeme}
use Rattle.verilog_expression.proofs.lexemes.phrase.Goals as goal

pub returns-in_err-after : goal.returns-in_err-after
returns-in_err-after c =
    gives_error _ c.from_residual.result _ c.in_err-after.field-0.0 _ c.from_residual.ensures (λ e' h. h)
    (fails_on _ _ _ (λ f k. c.loop-mark.invariant ∙ lexeme_fails _ _ _ _ f c.loop-mark-test.true k) c.in_err-after.ensures)

pub loop-mark-preserved : goal.loop-mark-preserved
loop-mark-preserved c = c.loop-mark.invariant ∙ lexeme_passes _ _ _ _ _ c.loop-mark-test.true c.in_ok-after.ensures

pub returns : goal.returns
returns c = c.loop-mark.invariant ∙ no_lexeme _ _ _ c.loop-mark-test.false
