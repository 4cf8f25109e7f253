use Rattle.std.proofs.Common.{◌≡◌, min, take, length, [], refl, ap, ◌∙◌, sym, arith}
use Rattle.std.proofs.lemmas.List.{take_min, nil_from_length}
use Rattle.realization.specs.beat_core.Beats.{first_beat}
use Rattle.realization.specs.beat_core.Words.{word_of}
use Rattle.realization.proofs.beat_core_laws.WordLaws.{little_from-word_of, word_of-nil}
use Rattle.realization.proofs.beat_core_laws.BeatLaws.{same_beat}
use Rattle.pipe_core.proofs.answers.first_beat.Goals as goal
use Rattle.pipe_core.proofs.answers.first_beat.Goals.{then-count-eq0, else-count-eq0}

pub returns : goal.returns
returns c =
    let xs = c.args.rest.now in
    let n = c.min-count.result in
    let count : n ≡ min 8 (length xs) = omega arith in
    let word : c.if-count-eq0.word ≡ word_of (take 8 xs) = elim c.if-count-eq0.branch [
      | then-count-eq0 w ↦ let none : xs ≡ [] = nil_from_length xs (omega arith) in w.word-is ∙ sym word_of-nil ∙ ap (λ l. word_of (take 8 l)) (sym none)
      | else-count-eq0 w ↦ w.word-is ∙ w.read_uint-word.ensures ∙ little_from-word_of n xs (omega arith) ∙ ap (λ k. word_of (take k xs)) count ∙ ap word_of (take_min 8 xs)
    ] in
    same_beat (first_beat xs) _ _ _ word count refl
