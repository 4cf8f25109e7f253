use Rattle.std.proofs.Common.{◌∙◌, ◌+◌, ◌<◌, length, ap, arith}
use Rattle.port_drive.proofs.AnswerCounts.CountLemmas.{bytes_more, bytes_fit}
use Rattle.port_drive.proofs.answer_counts.answers.byte_count.Goals as goal

pub overflow_add-count : goal.overflow_add-count
overflow_add-count c =
    let answers = c.args.answers.now in
    let inside : c.loop-i.i < length answers = omega (arith, c.loop-i-test.true, c.len-i-end.ensures) in
    let fits = bytes_fit answers c.loop-i.i c.loop-i.count c.get.result.now c.get.ensures inside c.loop-i.invariant c.requires in
    omega (arith, fits, c.len.ensures)

pub loop-i-preserved : goal.loop-i-preserved
loop-i-preserved c =
    let answers = c.args.answers.now in
    let inside : c.loop-i.i < length answers = omega (arith, c.loop-i-test.true, c.len-i-end.ensures) in
    ap (λ n. c.loop-i.count + n) c.len.ensures ∙ bytes_more answers c.loop-i.i c.loop-i.count c.get.result.now c.get.ensures inside c.loop-i.invariant
