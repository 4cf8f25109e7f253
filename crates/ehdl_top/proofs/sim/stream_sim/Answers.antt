use Rattle.std.proofs.Common.{[], Err, ap}
use Rattle.command_line.specs.Request.{Names, names_of}
use Rattle.capture_run.specs.States.{ShelfState, state_of}
use Rattle.capture_run.specs.Runs.{result_names}
use Rattle.ehdl_top.specs.declared.error.CommandError.TheVariants as error
use Rattle.ehdl_top.specs.Steps.{IsGivenUpDrive, IsOver, StreamsSim, capture_error}
use Rattle.capture_run.proofs.StateLaws.{changes_none, changes_then, changes_within, tells_later}
use Rattle.ehdl_top.proofs.SimLemmas.{by_err, over_unread, over_begun, over_stopped, over_streamed, stops_as, held_begun, begun_changes, head_as, head_failed, stream_unread, stream_unbegun, stream_done, stream_stopped}
use Rattle.ehdl_top.proofs.sim.stream_sim.Goals as goal
use Rattle.ehdl_top.proofs.StreamLemmas.{apart_of, holds_still, over_then, stands_still}

pub drive_capture-requires-clause-apart : goal.drive_capture-requires-clause-apart
drive_capture-requires-clause-apart g c = apart_of (names_of c.args.files.now) c.requires.apart

pub run_error-requires : goal.run_error-requires
run_error-requires g c =
    stops_as (g.C.Clocked.netlist c.args.sim.now) (g.C.Clocked.netlist c.drive_capture.new.sim) c.args.driver.now.ifindex c.args.driver.now.limit c.args.survey.now.count (g.C.Clocked.stored c.args.sim.now) (g.C.Clocked.stored c.drive_capture.new.sim) c.in-Err.error
    c.requires.formed c.in-Err.ensures.netlist c.in-Err.ensures.some

pub returns-in_err-begin-clause-told : goal.returns-in_err-begin-clause-told
returns-in_err-begin-clause-told g c = λ told packets holds count.
    let names : Names = names_of c.args.files.now in
    let old : ShelfState = state_of g.S.Shelf c.args.shelf.now in
    let new : ShelfState = state_of g.S.Shelf c.begin.new.shelf in
    let d = g.C.Clocked.netlist c.args.sim.now in
    let s = g.C.Clocked.stored c.args.sim.now in
    by_err c.from_residual.result (λ r. StreamsSim names d s s c.args.driver.now.ifindex c.args.driver.now.limit c.args.survey.now.stream.magic packets r old new) (capture_error c.in_err-begin.field-0.0) c.from_residual.ensures.1
    (λ e is. stream_unread names d s s c.args.driver.now.ifindex c.args.driver.now.limit c.args.survey.now.stream.magic packets e c.in_err-begin.field-0.0 old new is (c.in_err-begin.ensures.begins told c.args.survey.now.stream packets holds) c.in_err-begin.ensures.kept)

pub returns-in_err-begin-clause-over : goal.returns-in_err-begin-clause-over
returns-in_err-begin-clause-over g c =
    let names : Names = names_of c.args.files.now in
    let old : ShelfState = state_of g.S.Shelf c.args.shelf.now in
    let new : ShelfState = state_of g.S.Shelf c.begin.new.shelf in
    by_err c.from_residual.result (λ r. IsOver IsGivenUpDrive names.capture (result_names names) r old new) (capture_error c.in_err-begin.field-0.0) c.from_residual.ensures.1
    (λ e is. over_unread IsGivenUpDrive names.capture (result_names names) c.in_err-begin.field-0.0 e old new is (λ f. c.in_err-begin.ensures.failed (ap Err f)) c.in_err-begin.ensures.kept)

pub returns-in_err-begin-2-clause-told : goal.returns-in_err-begin-2-clause-told
returns-in_err-begin-2-clause-told g c = λ told packets holds count.
    let names : Names = names_of c.args.files.now in
    let old : ShelfState = state_of g.S.Shelf c.args.shelf.now in
    let mid : ShelfState = state_of g.S.Shelf c.begin.new.shelf in
    let new : ShelfState = state_of g.S.Shelf c.begin-2.new.shelf in
    let d = g.C.Clocked.netlist c.args.sim.now in
    let s = g.C.Clocked.stored c.args.sim.now in
    let first = c.begin.ensures.kept in
    by_err c.from_residual-in_err-begin-2.result (λ r. StreamsSim names d s s c.args.driver.now.ifindex c.args.driver.now.limit c.args.survey.now.stream.magic packets r old new) (capture_error c.in_err-begin-2.field-0.0) c.from_residual-in_err-begin-2.ensures.1
    (λ e is. stream_unread names d s s c.args.driver.now.ifindex c.args.driver.now.limit c.args.survey.now.stream.magic packets e c.in_err-begin-2.field-0.0 old new is
    (c.in_err-begin-2.ensures.begins (tells_later old mid first.later told) c.args.survey.now.stream packets (holds_still c.args.survey.now.stream packets old mid names.capture (first.others names.capture tt) holds))
    (changes_then [] old mid new first c.in_err-begin-2.ensures.kept))

pub returns-in_err-begin-2-clause-over : goal.returns-in_err-begin-2-clause-over
returns-in_err-begin-2-clause-over g c =
    let names : Names = names_of c.args.files.now in
    let old : ShelfState = state_of g.S.Shelf c.args.shelf.now in
    let mid : ShelfState = state_of g.S.Shelf c.begin.new.shelf in
    let new : ShelfState = state_of g.S.Shelf c.begin-2.new.shelf in
    by_err c.from_residual-in_err-begin-2.result (λ r. IsOver IsGivenUpDrive names.capture (result_names names) r old new) (capture_error c.in_err-begin-2.field-0.0) c.from_residual-in_err-begin-2.ensures.1
    (λ e is. over_then IsGivenUpDrive names.capture (result_names names) (Err e) old mid new (changes_within (result_names names) old mid c.begin.ensures.kept)
    (over_unread IsGivenUpDrive names.capture (result_names names) c.in_err-begin-2.field-0.0 e mid new is (λ f. c.in_err-begin-2.ensures.failed (ap Err f)) c.in_err-begin-2.ensures.kept))

pub returns-in_err-begin_results-clause-told : goal.returns-in_err-begin_results-clause-told
returns-in_err-begin_results-clause-told g c = λ told packets holds count.
    let names : Names = names_of c.args.files.now in
    let old : ShelfState = state_of g.S.Shelf c.args.shelf.now in
    let mid : ShelfState = state_of g.S.Shelf c.begin.new.shelf in
    let still : ShelfState = state_of g.S.Shelf c.begin-2.new.shelf in
    let new : ShelfState = state_of g.S.Shelf c.begin_results.new.shelf in
    let d = g.C.Clocked.netlist c.args.sim.now in
    let s = g.C.Clocked.stored c.args.sim.now in
    by_err c.from_residual-in_err-begin_results.result (λ r. StreamsSim names d s s c.args.driver.now.ifindex c.args.driver.now.limit c.args.survey.now.stream.magic packets r old new) error.WriteFault c.from_residual-in_err-begin_results.ensures.1
    (λ e is. stream_unbegun names d s s c.args.driver.now.ifindex c.args.driver.now.limit c.args.survey.now.stream.magic packets e old still new is (changes_then [] old mid still c.begin.ensures.kept c.begin-2.ensures.kept) (head_failed names c.magic.result c.args.survey.now.stream.magic still new c.magic.ensures c.in_err-begin_results.ensures.failed))

pub returns-in_err-begin_results-clause-over : goal.returns-in_err-begin_results-clause-over
returns-in_err-begin_results-clause-over g c =
    let names : Names = names_of c.args.files.now in
    let old : ShelfState = state_of g.S.Shelf c.args.shelf.now in
    let mid : ShelfState = state_of g.S.Shelf c.begin.new.shelf in
    let still : ShelfState = state_of g.S.Shelf c.begin-2.new.shelf in
    let new : ShelfState = state_of g.S.Shelf c.begin_results.new.shelf in
    by_err c.from_residual-in_err-begin_results.result (λ r. IsOver IsGivenUpDrive names.capture (result_names names) r old new) error.WriteFault c.from_residual-in_err-begin_results.ensures.1
    (λ e is. over_begun names c.args.survey.now.stream.magic e old still new is (changes_then [] old mid still c.begin.ensures.kept c.begin-2.ensures.kept) (head_failed names c.magic.result c.args.survey.now.stream.magic still new c.magic.ensures c.in_err-begin_results.ensures.failed))

pub returns-in-Ok-clause-told : goal.returns-in-Ok-clause-told
returns-in-Ok-clause-told g c = λ told packets holds count.
    let names : Names = names_of c.args.files.now in
    let stream = c.args.survey.now.stream in
    let old : ShelfState = state_of g.S.Shelf c.args.shelf.now in
    let mid : ShelfState = state_of g.S.Shelf c.begin.new.shelf in
    let still : ShelfState = state_of g.S.Shelf c.begin-2.new.shelf in
    let begun : ShelfState = state_of g.S.Shelf c.begin_results.new.shelf in
    let new : ShelfState = state_of g.S.Shelf c.drive_capture.new.shelf in
    let first = c.begin.ensures.kept in
    let second = c.begin-2.ensures.kept in
    let same = changes_then [] old mid still first second in
    let head = head_as names c.magic.result stream.magic still begun c.magic.ensures c.in_ok-begin_results.ensures.done in
    let here = held_begun names stream.magic old mid still begun c.requires.apart first second head in
    let after = held_begun names stream.magic mid still still begun c.requires.apart second (changes_none still) head in
    let tells = tells_later still begun (begun_changes names stream.magic still begun head).later (tells_later old still same.later told) in
    let ahead = stands_still stream c.begin.new.self packets old begun names.capture here (c.in_ok-begin.ensures.begins told stream packets holds) in
    let behind = stands_still stream c.begin-2.new.self packets mid begun names.capture after (c.in_ok-begin-2.ensures.begins (tells_later old mid first.later told) stream packets (holds_still stream packets old mid names.capture (first.others names.capture tt) holds)) in
    stream_done names (g.C.Clocked.netlist c.args.sim.now) (g.C.Clocked.stored c.args.sim.now) (g.C.Clocked.stored c.drive_capture.new.sim) c.args.driver.now.ifindex c.args.driver.now.limit stream.magic packets old still begun new same head
    (c.in-Ok.ensures.told tells packets (holds_still stream packets old begun names.capture here holds) count ahead behind)

pub returns-in-Ok-clause-over : goal.returns-in-Ok-clause-over
returns-in-Ok-clause-over g c =
    let names : Names = names_of c.args.files.now in
    let old : ShelfState = state_of g.S.Shelf c.args.shelf.now in
    let mid : ShelfState = state_of g.S.Shelf c.begin.new.shelf in
    let still : ShelfState = state_of g.S.Shelf c.begin-2.new.shelf in
    let begun : ShelfState = state_of g.S.Shelf c.begin_results.new.shelf in
    let new : ShelfState = state_of g.S.Shelf c.drive_capture.new.shelf in
    over_streamed names c.args.survey.now.stream.magic old still begun new (changes_then [] old mid still c.begin.ensures.kept c.begin-2.ensures.kept) (head_as names c.magic.result c.args.survey.now.stream.magic still begun c.magic.ensures c.in_ok-begin_results.ensures.done) c.in-Ok.ensures.over

pub returns-in-Err-clause-told : goal.returns-in-Err-clause-told
returns-in-Err-clause-told g c = λ told packets holds count.
    let names : Names = names_of c.args.files.now in
    let stream = c.args.survey.now.stream in
    let old : ShelfState = state_of g.S.Shelf c.args.shelf.now in
    let mid : ShelfState = state_of g.S.Shelf c.begin.new.shelf in
    let still : ShelfState = state_of g.S.Shelf c.begin-2.new.shelf in
    let begun : ShelfState = state_of g.S.Shelf c.begin_results.new.shelf in
    let new : ShelfState = state_of g.S.Shelf c.drive_capture.new.shelf in
    let first = c.begin.ensures.kept in
    let second = c.begin-2.ensures.kept in
    let same = changes_then [] old mid still first second in
    let head = head_as names c.magic.result stream.magic still begun c.magic.ensures c.in_ok-begin_results.ensures.done in
    let here = held_begun names stream.magic old mid still begun c.requires.apart first second head in
    let after = held_begun names stream.magic mid still still begun c.requires.apart second (changes_none still) head in
    let tells = tells_later still begun (begun_changes names stream.magic still begun head).later (tells_later old still same.later told) in
    let ahead = stands_still stream c.begin.new.self packets old begun names.capture here (c.in_ok-begin.ensures.begins told stream packets holds) in
    let behind = stands_still stream c.begin-2.new.self packets mid begun names.capture after (c.in_ok-begin-2.ensures.begins (tells_later old mid first.later told) stream packets (holds_still stream packets old mid names.capture (first.others names.capture tt) holds)) in
    stream_stopped names (g.C.Clocked.netlist c.args.sim.now) (g.C.Clocked.stored c.args.sim.now) (g.C.Clocked.stored c.drive_capture.new.sim) c.args.driver.now.ifindex c.args.driver.now.limit stream.magic packets old still begun new same head
    (g.C.Clocked.netlist c.drive_capture.new.sim) c.in-Err.error c.run_error.result c.in-Err.ensures.netlist c.run_error.ensures
    (c.in-Err.ensures.told tells packets (holds_still stream packets old begun names.capture here holds) count ahead behind)

pub returns-in-Err-clause-over : goal.returns-in-Err-clause-over
returns-in-Err-clause-over g c =
    let names : Names = names_of c.args.files.now in
    let old : ShelfState = state_of g.S.Shelf c.args.shelf.now in
    let mid : ShelfState = state_of g.S.Shelf c.begin.new.shelf in
    let still : ShelfState = state_of g.S.Shelf c.begin-2.new.shelf in
    let begun : ShelfState = state_of g.S.Shelf c.begin_results.new.shelf in
    let new : ShelfState = state_of g.S.Shelf c.drive_capture.new.shelf in
    over_stopped names c.args.survey.now.stream.magic (g.C.Clocked.netlist c.drive_capture.new.sim) c.in-Err.error c.run_error.result old still begun new (changes_then [] old mid still c.begin.ensures.kept c.begin-2.ensures.kept) (head_as names c.magic.result c.args.survey.now.stream.magic still begun c.magic.ensures c.in_ok-begin_results.ensures.done)
    c.in-Err.ensures.over c.run_error.ensures
