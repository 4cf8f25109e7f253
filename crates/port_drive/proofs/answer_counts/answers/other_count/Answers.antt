use Rattle.std.proofs.Common.{◌∙◌, ◌<◌, length, arith}
use Rattle.std.specs.Prelude.{nat_lt}
use Rattle.port_drive.proofs.AnswerCounts.CountLemmas.{count_yes, count_no, is_above, not_above}
use Rattle.port_drive.proofs.answer_counts.answers.other_count.Goals.{then-get-gt4, else-get-gt4}
use Rattle.port_drive.proofs.answer_counts.answers.other_count.Goals as goal

pub loop-i-preserved : goal.loop-i-preserved
loop-i-preserved c =
    let answers = c.args.answers.now in
    let inside : c.loop-i.i < length answers = omega (arith, c.loop-i-test.true, c.len-i-end.ensures) in
    elim c.if-get-gt4.branch [
      | then-get-gt4 w ↦ record {
        counted = w.count-is ∙ count_yes (λ a. nat_lt 4 a.verdict) answers c.loop-i.i c.loop-i.count c.get.result.now c.get.ensures inside c.loop-i.invariant.counted (is_above _ _ w.if-get-gt4.true);
        few = omega (arith, w.count-is, c.loop-i.invariant.few);
      }
      | else-get-gt4 w ↦ record {
        counted = w.count-is ∙ count_no (λ a. nat_lt 4 a.verdict) answers c.loop-i.i c.loop-i.count c.get.result.now c.get.ensures inside c.loop-i.invariant.counted (not_above _ _ w.if-get-gt4.false);
        few = omega (arith, w.count-is, c.loop-i.invariant.few);
      }
    ]
