use Rattle.std.proofs.Common.{◌++◌, ◌+◌, length, take, sym, ap, ◌∙◌, arith}
use Rattle.beat_core.proofs.WordLaws.{prefix_is}
use Rattle.port_drive.specs.Driving.{Taking}
use Rattle.port_drive.proofs.RoomLaws.{part_taken, held_length, on_err}
use Rattle.port_drive.proofs.answer_room.AnswerRoom.take.Goals as goal

pub returns-in_err-extend_from_slice-clause-full : goal.returns-in_err-extend_from_slice-clause-full
returns-in_err-extend_from_slice-clause-full c = on_err c.from_residual.result (λ given ready.
    let prefix = prefix_is c.min-count.result c.args.shown.now.out_bytes c.args.shown.now.out_data c.bytes_of_word-word.result c.min-count.ensures c.bytes_of_word-word.ensures in
    let begun = c.restart.ensures.items ∙ ap (λ (v : Taking). v.begun) c.self.view_is in
    let many = held_length c.args.shown.now c.args.self.now.begun _ c.if-not-shown.false prefix given ready in
    omega (arith, many, ap length begun, c.in_err-extend_from_slice.ensures.full, c.restart.ensures.capacity, c.restart.new.bytes.ok.0, c.self.invariant))

pub returns-clause-ok : goal.returns-clause-ok
returns-clause-ok c = λ given ready.
    let prefix = prefix_is c.min-count.result c.args.shown.now.out_bytes c.args.shown.now.out_data c.bytes_of_word-word.result c.min-count.ensures c.bytes_of_word-word.ensures in
    let begun = c.restart.ensures.items ∙ ap (λ (v : Taking). v.begun) c.self.view_is in
    sym (part_taken c.args.shown.now c.args.self.now.begun _ c.if-not-shown.false (c.in_ok-extend_from_slice.ensures.items ∙ ap (λ bs. bs ++ take c.min-count.result c.bytes_of_word-word.result) begun ∙ ap (λ bs. c.args.self.now.begun ++ bs) prefix) given ready)
