use Rattle.std.proofs.Common.{◌≡◌, length}
use Rattle.register_rules.proofs.equal_registers.guessing.word_marks.Given as goal

abbrev pub invariant-loop-word : goal.invariant-loop-word
invariant-loop-word l = length l.marks.items ≡ l.word-index
