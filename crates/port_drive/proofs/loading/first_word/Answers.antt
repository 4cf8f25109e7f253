use Rattle.std.proofs.Common.{◌≡◌, min, take, length, ap, ◌∙◌, arith}
use Rattle.std.proofs.lemmas.List.{take_min}
use Rattle.beat_core.specs.Words.{word_of}
use Rattle.beat_core.proofs.WordLaws.{little_from-word_of}
use Rattle.port_drive.proofs.loading.first_word.Goals as goal

pub returns : goal.returns
returns c =
    let xs = c.args.rest.now in
    let n = c.min.result in
    let count : n ≡ min 8 (length xs) = omega arith in
    c.read_uint.ensures ∙ little_from-word_of n xs (omega arith) ∙ ap (λ k. word_of (take k xs)) count ∙ ap word_of (take_min 8 xs)
