use Rattle.std.proofs.Common.{◌≡◌, min, take, length, refl, ap, ◌∙◌, arith}
use Rattle.std.proofs.lemmas.List.{take_min}
use Rattle.beat_core.specs.Beats.{first_beat}
use Rattle.beat_core.specs.Words.{word_of}
use Rattle.beat_core.proofs.WordLaws.{little_from-word_of}
use Rattle.beat_core.proofs.BeatLaws.{same_beat}
use Rattle.port_drive.proofs.frame_room.first_beat.Goals as goal

pub returns : goal.returns
returns c =
    let xs = c.args.rest.now in
    let n = c.min-count.result in
    let count : n ≡ min 8 (length xs) = omega arith in
    let word : c.read_uint.result ≡ word_of (take 8 xs) = c.read_uint.ensures ∙ little_from-word_of n xs (omega arith) ∙ ap (λ k. word_of (take k xs)) count ∙ ap word_of (take_min 8 xs) in
    same_beat (first_beat xs) _ _ _ word count refl
