use Rattle.std.proofs.Common.{◌≡◌, ◌≤◌, take}
use Rattle.port_drive.specs.AnswerCounts.Counts.{other_count}
use Rattle.port_drive.proofs.answer_counts.answers.other_count.Given as goal

abbrev pub invariant-loop-i : goal.invariant-loop-i
invariant-loop-i l = record {
  counted : l.count ≡ other_count (take l.i l.answers);
  few : l.count ≤ l.i;
}
