-- How many words bytes make.
use Rattle.std.proofs.Common.{◌≡◌, ℕ, List, length, ◌∙◌}
use Rattle.std.proofs.lemmas.List.{length-map}
use Rattle.beat_core.specs.Beats.{beats_of, beat_count}
use Rattle.beat_core.proofs.BeatLaws.{length-beats_of}
use Rattle.realization.specs.HostHistory.Rows.{words_of}

pub length-words_of : (xs : List ℕ) → length (words_of xs) ≡ beat_count (length xs)
length-words_of xs = length-map (beats_of xs) (λ b. b.word) ∙ length-beats_of xs
