use Rattle.std.proofs.Common.{◌≡◌, take}
use Rattle.port_drive.specs.AnswerCounts.Counts.{byte_count}
use Rattle.port_drive.proofs.answer_counts.answers.byte_count.Given as goal

abbrev pub invariant-loop-i : goal.invariant-loop-i
invariant-loop-i l = l.count ≡ byte_count (take l.i l.answers)
