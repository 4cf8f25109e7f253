use Rattle.std.proofs.Common.{rules, ◌≡◌, ◌∙◌, ℕ, List, ◌∷◌, Result, refl, subst, sym}
use Rattle.beat_core.specs.list_laws.Bytes.{IsBytes}
use Rattle.pcap_core.specs.Format.{Packet}
use Rattle.xdp_state.specs.xdp_machine.State.{PacketIn}
use Rattle.xdp_state.specs.xdp_machine.Runs.{Leaves}
use Rattle.command_line.specs.Request.{Names, names_of}
use Rattle.capture_run.specs.States.{ShelfState, state_of}
use Rattle.capture_run.specs.Results.{answer_writes}
use Rattle.capture_run.specs.Runs.{IsRunOver, AnswersOut, answer_left, result_names}
use Rattle.capture_run.specs.declared.records.Stamp.{Stamp}
use Rattle.capture_run.specs.declared.error.RunError.{RunError}
use Rattle.capture_run.proofs.StateLaws.{changes_within}
use Rattle.capture_run.proofs.EndLaws.{over_then, out_from, read_over, read_out, as_capture, on_ok}
use Rattle.capture_run.proofs.RangeLaws.{packet_comes}
use Rattle.capture_run.proofs.RunLaws.{out_of_next}
use Rattle.capture_run.proofs.sequential.run_next.Goals as goal

pub returns-in_err-stamp-clause-told : goal.returns-in_err-stamp-clause-told
returns-in_err-stamp-clause-told g c = λ tells p rest e stands ran.
    let old : ShelfState = state_of g.S.Shelf c.args.shelf.now in
    let new : ShelfState = state_of g.S.Shelf c.next.new.shelf in
    let fault = c.in_err-stamp.field-0.0 in
    let P : Result (Unit {0}) RunError → Type 0 = λ r. AnswersOut r (answer_writes (names_of c.args.files.now) p c.args.index (answer_left e)) (c.args.maps.now ≡ e.maps) old new in
    subst P (sym (as_capture c.from_residual.result fault c.from_residual.ensures.1))
    (read_out (answer_writes (names_of c.args.files.now) p c.args.index (answer_left e)) (c.args.maps.now ≡ e.maps) fault old new (c.in_err-stamp.ensures.gives tells (p ∷ rest) stands) c.in_err-stamp.ensures.kept)

pub returns-in_err-stamp-clause-over : goal.returns-in_err-stamp-clause-over
returns-in_err-stamp-clause-over g c =
    let old : ShelfState = state_of g.S.Shelf c.args.shelf.now in
    let new : ShelfState = state_of g.S.Shelf c.next.new.shelf in
    let names : Names = names_of c.args.files.now in
    let fault = c.in_err-stamp.field-0.0 in
    let P : Result (Unit {0}) RunError → Type 0 = λ r. IsRunOver names.capture (result_names names) r old new in
    subst P (sym (as_capture c.from_residual.result fault c.from_residual.ensures.1)) (read_over {T = Stamp} names.capture (result_names names) fault old new c.in_err-stamp.ensures.failed c.in_err-stamp.ensures.kept)

pub returns-clause-told : goal.returns-clause-told
returns-clause-told g c = λ tells p rest e stands ran.
    let old : ShelfState = state_of g.S.Shelf c.args.shelf.now in
    let mid : ShelfState = state_of g.S.Shelf c.next.new.shelf in
    let new : ShelfState = state_of g.S.Shelf c.answer_packet.new.shelf in
    let names : Names = names_of c.args.files.now in
    let gives = c.in_ok-stamp.ensures.gives tells (p ∷ rest) stands in
    let whole : c.copy_from_slice.new.self ≡ c.next.new.self.feed.given = c.copy_from_slice.ensures.after ∙ c.bytes-bytes.ensures in
    out_from c.answer_packet.result (answer_writes names p c.args.index (answer_left e)) (c.answer_packet.new.maps ≡ e.maps) old mid new c.in_ok-stamp.ensures.kept
    (out_of_next names c.args.plan.now c.args.maps.now c.answer_packet.new.maps c.args.ifindex c.args.stream.now.magic c.time.result c.in_ok-stamp.stamp c.next.new.self.feed.given c.copy_from_slice.new.self p c.args.index e c.answer_packet.result mid new
    gives.0 whole c.time.ensures.time c.answer_packet.ensures.out ran)

pub returns-clause-stands : goal.returns-clause-stands
returns-clause-stands g c = λ tells p rest stands. on_ok c.answer_packet.result (c.in_ok-stamp.ensures.gives tells (p ∷ rest) stands).1

pub returns-clause-over : goal.returns-clause-over
returns-clause-over g c =
    let names : Names = names_of c.args.files.now in
    over_then names.capture (result_names names) c.answer_packet.result (state_of g.S.Shelf c.args.shelf.now) (state_of g.S.Shelf c.next.new.shelf) (state_of g.S.Shelf c.answer_packet.new.shelf)
    (changes_within (result_names names) (state_of g.S.Shelf c.args.shelf.now) (state_of g.S.Shelf c.next.new.shelf) c.in_ok-stamp.ensures.kept) c.answer_packet.ensures.over

pub answer_packet-requires-clause-ends : goal.answer_packet-requires-clause-ends
answer_packet-requires-clause-ends g c =
    let packet : PacketIn = record { frame = c.copy_from_slice.new.self; ifindex = c.args.ifindex; time = c.time.result } in
    let bytes : IsBytes packet.frame = subst IsBytes (sym c.copy_from_slice.ensures.after) c.count_of.ensures.bytes in
    let end = c.requires.ends packet c.args.maps.now refl (packet_comes packet bytes (search rules) c.ranges.ifindex.fits (search rules) c.args.maps.now c.decls-decls.ensures.sound) in
    (end.0, end.1)
