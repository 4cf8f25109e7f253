-- The memories of answers, counted.
use Rattle.std.specs.Prelude.{◌≡◌, ℕ, ◌+◌, List, length}
use Rattle.std.proofs.Common.{arith}
use Rattle.std.proofs.lemmas.List.{length-map}
use Rattle.frame_net.specs.Answers.{word_widths, answer_widths}

pub count_answers : (bits : ℕ) (words : List ℕ) → length (answer_widths bits words) ≡ 2 + length words
count_answers bits words = let n = length-map words (word_widths bits) in omega (arith, n)
