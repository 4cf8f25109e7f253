use Rattle.std.specs.List.{filter}
use Rattle.std.proofs.Common.{◌≡◌}
use Rattle.hazard_core.specs.cell_core.Rows.{numbers}
use Rattle.pipe_design.specs.Answer.{has_byte}
use Rattle.pipe_design.proofs.answer.changed_words.Given as goal

abbrev pub invariant-loop-word : goal.invariant-loop-word
invariant-loop-word l = l.words.items ≡ filter (has_byte l.frame) (numbers 0 l.word)
