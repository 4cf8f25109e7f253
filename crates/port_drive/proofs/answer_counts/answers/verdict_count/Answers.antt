use Rattle.std.proofs.Common.{◌==◌, ◌∙◌, ◌<◌, length, arith}
use Rattle.port_drive.proofs.AnswerCounts.CountLemmas.{count_yes, count_no, is_verdict, other_verdict}
use Rattle.port_drive.proofs.answer_counts.answers.verdict_count.Goals.{then-get-verdict, else-get-verdict}
use Rattle.port_drive.proofs.answer_counts.answers.verdict_count.Goals as goal

pub loop-i-preserved : goal.loop-i-preserved
loop-i-preserved c =
    let answers = c.args.answers.now in
    let inside : c.loop-i.i < length answers = omega (arith, c.loop-i-test.true, c.len-i-end.ensures) in
    elim c.if-get-verdict.branch [
      | then-get-verdict w ↦ record {
        counted = w.count-is ∙ count_yes (λ a. a.verdict == c.args.verdict) answers c.loop-i.i c.loop-i.count c.get.result.now c.get.ensures inside c.loop-i.invariant.counted (is_verdict _ _ w.if-get-verdict.true);
        few = omega (arith, w.count-is, c.loop-i.invariant.few);
      }
      | else-get-verdict w ↦ record {
        counted = w.count-is ∙ count_no (λ a. a.verdict == c.args.verdict) answers c.loop-i.i c.loop-i.count c.get.result.now c.get.ensures inside c.loop-i.invariant.counted (other_verdict _ _ w.if-get-verdict.false);
        few = omega (arith, w.count-is, c.loop-i.invariant.few);
      }
    ]
