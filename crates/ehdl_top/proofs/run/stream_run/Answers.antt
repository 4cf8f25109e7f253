use Rattle.std.proofs.Common.{Err, [], subst}
use Rattle.command_line.specs.Request.{names_of}
use Rattle.capture_run.specs.States.{state_of}
use Rattle.capture_run.specs.Writes.{AreDone, OneFailed}
use Rattle.capture_run.specs.Results.{head_writes}
use Rattle.capture_run.proofs.StateLaws.{changes_none, changes_then, tells_later}
use Rattle.ehdl_top.specs.Steps.{NoOther, streamed_names}
use Rattle.ehdl_top.proofs.RunLemmas.{plain_stop, is_driven, over_unread, over_untexted, over_unbegun, over_stopped, over_streamed, reads_on, same_capture, begun_changes, stream_unread, stream_untexted, stream_unbegun, stream_done, stream_stopped}
use Rattle.ehdl_top.proofs.run.stream_run.Goals as goal
use Rattle.ehdl_top.proofs.StreamLemmas.{apart_of, holds_still, stands_still}

pub drive_capture-requires-clause-apart : goal.drive_capture-requires-clause-apart
drive_capture-requires-clause-apart g c =
    apart_of (names_of c.args.files.now) c.requires.apart

pub stopped-requires : goal.stopped-requires
stopped-requires g c =
    let sim = c.args.sim.now in
    let driver = c.args.driver.now in
    let pipeline = c.requires.pipeline in
    let plain = plain_stop pipeline.0 pipeline.1 sim.netlist sim.stored c.drive_capture.new.sim.stored driver.ifindex driver.limit c.args.survey.now.count c.in-Err.error pipeline.2 c.in-Err.ensures.some in
    plain

pub returns-in_err-begin-clause-told : goal.returns-in_err-begin-clause-told
returns-in_err-begin-clause-told g c = λ told packets holds count.
    let names = names_of c.args.files.now in
    let verilog = c.args.verilog.now in
    let opened = c.args.survey.now.stream in
    let sim = c.args.sim.now in
    let driver = c.args.driver.now in
    let old = state_of g.S.Shelf c.args.shelf.now in
    let first = state_of g.S.Shelf c.begin.new.shelf in
    stream_unread names verilog c.args.text.now sim.netlist sim.stored sim.stored driver.ifindex driver.limit opened.magic packets c.from_residual.result c.in_err-begin.field-0.0 old first c.from_residual.ensures.1 (c.in_err-begin.ensures.begins told opened packets holds) c.in_err-begin.ensures.kept

pub returns-in_err-begin-clause-over : goal.returns-in_err-begin-clause-over
returns-in_err-begin-clause-over g c =
    let names = names_of c.args.files.now in
    let verilog = c.args.verilog.now in
    let old = state_of g.S.Shelf c.args.shelf.now in
    let first = state_of g.S.Shelf c.begin.new.shelf in
    over_unread NoOther names.capture (streamed_names names verilog) c.from_residual.result c.in_err-begin.field-0.0 old old first c.from_residual.ensures.1 (changes_none old) c.in_err-begin.ensures.failed c.in_err-begin.ensures.kept

pub returns-in_err-begin-2-clause-told : goal.returns-in_err-begin-2-clause-told
returns-in_err-begin-2-clause-told g c = λ told packets holds count.
    let names = names_of c.args.files.now in
    let verilog = c.args.verilog.now in
    let opened = c.args.survey.now.stream in
    let sim = c.args.sim.now in
    let driver = c.args.driver.now in
    let old = state_of g.S.Shelf c.args.shelf.now in
    let first = state_of g.S.Shelf c.begin.new.shelf in
    let second = state_of g.S.Shelf c.begin-2.new.shelf in
    let same = changes_then [] old first second c.begin.ensures.kept c.begin-2.ensures.kept in
    stream_unread names verilog c.args.text.now sim.netlist sim.stored sim.stored driver.ifindex driver.limit opened.magic packets c.from_residual-in_err-begin-2.result c.in_err-begin-2.field-0.0 old second c.from_residual-in_err-begin-2.ensures.1
    (c.in_err-begin-2.ensures.begins (tells_later old first c.begin.ensures.kept.later told) opened packets (holds_still opened packets old first names.capture (c.begin.ensures.kept.others names.capture tt) holds)) same

pub returns-in_err-begin-2-clause-over : goal.returns-in_err-begin-2-clause-over
returns-in_err-begin-2-clause-over g c =
    let names = names_of c.args.files.now in
    let verilog = c.args.verilog.now in
    let old = state_of g.S.Shelf c.args.shelf.now in
    let first = state_of g.S.Shelf c.begin.new.shelf in
    let second = state_of g.S.Shelf c.begin-2.new.shelf in
    over_unread NoOther names.capture (streamed_names names verilog) c.from_residual-in_err-begin-2.result c.in_err-begin-2.field-0.0 old first second c.from_residual-in_err-begin-2.ensures.1 c.begin.ensures.kept c.in_err-begin-2.ensures.failed c.in_err-begin-2.ensures.kept

pub returns-in_err-put_file-clause-told : goal.returns-in_err-put_file-clause-told
returns-in_err-put_file-clause-told g c = λ told packets holds count.
    let names = names_of c.args.files.now in
    let verilog = c.args.verilog.now in
    let opened = c.args.survey.now.stream in
    let sim = c.args.sim.now in
    let driver = c.args.driver.now in
    let old = state_of g.S.Shelf c.args.shelf.now in
    let first = state_of g.S.Shelf c.begin.new.shelf in
    let second = state_of g.S.Shelf c.begin-2.new.shelf in
    let third = state_of g.S.Shelf c.put_file.new.shelf in
    let same = changes_then [] old first second c.begin.ensures.kept c.begin-2.ensures.kept in
    stream_untexted names verilog c.args.text.now sim.netlist sim.stored sim.stored driver.ifindex driver.limit opened.magic packets c.from_residual-in_err-put_file.result old second third c.from_residual-in_err-put_file.ensures.1 same c.in_err-put_file.ensures.failed

pub returns-in_err-put_file-clause-over : goal.returns-in_err-put_file-clause-over
returns-in_err-put_file-clause-over g c =
    let names = names_of c.args.files.now in
    let verilog = c.args.verilog.now in
    let old = state_of g.S.Shelf c.args.shelf.now in
    let first = state_of g.S.Shelf c.begin.new.shelf in
    let second = state_of g.S.Shelf c.begin-2.new.shelf in
    let third = state_of g.S.Shelf c.put_file.new.shelf in
    let same = changes_then [] old first second c.begin.ensures.kept c.begin-2.ensures.kept in
    over_untexted names verilog c.args.text.now c.from_residual-in_err-put_file.result old second third c.from_residual-in_err-put_file.ensures.1 same c.in_err-put_file.ensures.failed

pub returns-in_err-begin_results-clause-told : goal.returns-in_err-begin_results-clause-told
returns-in_err-begin_results-clause-told g c = λ told packets holds count.
    let names = names_of c.args.files.now in
    let verilog = c.args.verilog.now in
    let opened = c.args.survey.now.stream in
    let sim = c.args.sim.now in
    let driver = c.args.driver.now in
    let old = state_of g.S.Shelf c.args.shelf.now in
    let first = state_of g.S.Shelf c.begin.new.shelf in
    let second = state_of g.S.Shelf c.begin-2.new.shelf in
    let third = state_of g.S.Shelf c.put_file.new.shelf in
    let fourth = state_of g.S.Shelf c.begin_results.new.shelf in
    let same = changes_then [] old first second c.begin.ensures.kept c.begin-2.ensures.kept in
    let failed : OneFailed (head_writes names opened.magic) third fourth = subst (λ m. OneFailed (head_writes names m) third fourth) c.magic.ensures c.in_err-begin_results.ensures.failed in
    stream_unbegun names verilog c.args.text.now sim.netlist sim.stored sim.stored driver.ifindex driver.limit opened.magic packets c.from_residual-in_err-begin_results.result old second third fourth c.from_residual-in_err-begin_results.ensures.1 same c.in_ok-put_file.ensures.done failed

pub returns-in_err-begin_results-clause-over : goal.returns-in_err-begin_results-clause-over
returns-in_err-begin_results-clause-over g c =
    let names = names_of c.args.files.now in
    let verilog = c.args.verilog.now in
    let opened = c.args.survey.now.stream in
    let old = state_of g.S.Shelf c.args.shelf.now in
    let first = state_of g.S.Shelf c.begin.new.shelf in
    let second = state_of g.S.Shelf c.begin-2.new.shelf in
    let third = state_of g.S.Shelf c.put_file.new.shelf in
    let fourth = state_of g.S.Shelf c.begin_results.new.shelf in
    let same = changes_then [] old first second c.begin.ensures.kept c.begin-2.ensures.kept in
    let failed : OneFailed (head_writes names opened.magic) third fourth = subst (λ m. OneFailed (head_writes names m) third fourth) c.magic.ensures c.in_err-begin_results.ensures.failed in
    over_unbegun names verilog c.args.text.now opened.magic c.from_residual-in_err-begin_results.result old second third fourth c.from_residual-in_err-begin_results.ensures.1 same c.in_ok-put_file.ensures.done failed

pub returns-in-Ok-clause-told : goal.returns-in-Ok-clause-told
returns-in-Ok-clause-told g c = λ told packets holds count.
    let names = names_of c.args.files.now in
    let verilog = c.args.verilog.now in
    let opened = c.args.survey.now.stream in
    let sim = c.args.sim.now in
    let driver = c.args.driver.now in
    let old = state_of g.S.Shelf c.args.shelf.now in
    let first = state_of g.S.Shelf c.begin.new.shelf in
    let second = state_of g.S.Shelf c.begin-2.new.shelf in
    let third = state_of g.S.Shelf c.put_file.new.shelf in
    let fourth = state_of g.S.Shelf c.begin_results.new.shelf in
    let new = state_of g.S.Shelf c.drive_capture.new.shelf in
    let same = changes_then [] old first second c.begin.ensures.kept c.begin-2.ensures.kept in
    let begun : AreDone (head_writes names opened.magic) third fourth = subst (λ m. AreDone (head_writes names m) third fourth) c.magic.ensures c.in_ok-begin_results.ensures.done in
    let kept = begun_changes names verilog c.args.text.now opened.magic old second third fourth same c.in_ok-put_file.ensures.done begun in
    let still = same_capture names verilog old fourth c.requires.apart c.requires.text kept in
    let held = holds_still opened packets old first names.capture (c.begin.ensures.kept.others names.capture tt) holds in
    let drives = c.in-Ok.ensures.told (tells_later old fourth kept.later told) packets (holds_still opened packets old fourth names.capture still holds) count
    (stands_still opened c.begin.new.self packets old fourth names.capture still (c.in_ok-begin.ensures.begins told opened packets holds))
    (reads_on opened c.begin-2.new.self packets old first fourth names.capture c.begin.ensures.kept still (c.in_ok-begin-2.ensures.begins (tells_later old first c.begin.ensures.kept.later told) opened packets held)) in
    stream_done names verilog c.args.text.now sim.netlist sim.stored c.drive_capture.new.sim.stored driver.ifindex driver.limit opened.magic packets old second third fourth new same c.in_ok-put_file.ensures.done begun drives

pub returns-in-Ok-clause-driven : goal.returns-in-Ok-clause-driven
returns-in-Ok-clause-driven g c =
    let sim = c.args.sim.now in
    let driver = c.args.driver.now in
    is_driven sim.netlist driver.ifindex driver.limit c.args.survey.now.count sim.stored c.drive_capture.new.sim.stored c.in-Ok.ensures.some

pub returns-in-Ok-clause-over : goal.returns-in-Ok-clause-over
returns-in-Ok-clause-over g c =
    let names = names_of c.args.files.now in
    let verilog = c.args.verilog.now in
    let opened = c.args.survey.now.stream in
    let old = state_of g.S.Shelf c.args.shelf.now in
    let first = state_of g.S.Shelf c.begin.new.shelf in
    let second = state_of g.S.Shelf c.begin-2.new.shelf in
    let third = state_of g.S.Shelf c.put_file.new.shelf in
    let fourth = state_of g.S.Shelf c.begin_results.new.shelf in
    let new = state_of g.S.Shelf c.drive_capture.new.shelf in
    let same = changes_then [] old first second c.begin.ensures.kept c.begin-2.ensures.kept in
    let begun : AreDone (head_writes names opened.magic) third fourth = subst (λ m. AreDone (head_writes names m) third fourth) c.magic.ensures c.in_ok-begin_results.ensures.done in
    let kept = begun_changes names verilog c.args.text.now opened.magic old second third fourth same c.in_ok-put_file.ensures.done begun in
    over_streamed names verilog old fourth new kept c.in-Ok.ensures.over

pub returns-in-Err-clause-told : goal.returns-in-Err-clause-told
returns-in-Err-clause-told g c = λ told packets holds count.
    let names = names_of c.args.files.now in
    let verilog = c.args.verilog.now in
    let opened = c.args.survey.now.stream in
    let sim = c.args.sim.now in
    let driver = c.args.driver.now in
    let old = state_of g.S.Shelf c.args.shelf.now in
    let first = state_of g.S.Shelf c.begin.new.shelf in
    let second = state_of g.S.Shelf c.begin-2.new.shelf in
    let third = state_of g.S.Shelf c.put_file.new.shelf in
    let fourth = state_of g.S.Shelf c.begin_results.new.shelf in
    let new = state_of g.S.Shelf c.drive_capture.new.shelf in
    let same = changes_then [] old first second c.begin.ensures.kept c.begin-2.ensures.kept in
    let begun : AreDone (head_writes names opened.magic) third fourth = subst (λ m. AreDone (head_writes names m) third fourth) c.magic.ensures c.in_ok-begin_results.ensures.done in
    let kept = begun_changes names verilog c.args.text.now opened.magic old second third fourth same c.in_ok-put_file.ensures.done begun in
    let pipeline = c.requires.pipeline in
    let plain = plain_stop pipeline.0 pipeline.1 sim.netlist sim.stored c.drive_capture.new.sim.stored driver.ifindex driver.limit c.args.survey.now.count c.in-Err.error pipeline.2 c.in-Err.ensures.some in
    let still = same_capture names verilog old fourth c.requires.apart c.requires.text kept in
    let held = holds_still opened packets old first names.capture (c.begin.ensures.kept.others names.capture tt) holds in
    let drives = c.in-Err.ensures.told (tells_later old fourth kept.later told) packets (holds_still opened packets old fourth names.capture still holds) count
    (stands_still opened c.begin.new.self packets old fourth names.capture still (c.in_ok-begin.ensures.begins told opened packets holds))
    (reads_on opened c.begin-2.new.self packets old first fourth names.capture c.begin.ensures.kept still (c.in_ok-begin-2.ensures.begins (tells_later old first c.begin.ensures.kept.later told) opened packets held)) in
    stream_stopped names verilog c.args.text.now sim.netlist sim.stored c.drive_capture.new.sim.stored driver.ifindex driver.limit opened.magic packets (Err c.stopped.result) c.in-Err.error old second third fourth new c.stopped.ensures plain same c.in_ok-put_file.ensures.done begun drives

pub returns-in-Err-clause-over : goal.returns-in-Err-clause-over
returns-in-Err-clause-over g c =
    let names = names_of c.args.files.now in
    let verilog = c.args.verilog.now in
    let opened = c.args.survey.now.stream in
    let sim = c.args.sim.now in
    let driver = c.args.driver.now in
    let old = state_of g.S.Shelf c.args.shelf.now in
    let first = state_of g.S.Shelf c.begin.new.shelf in
    let second = state_of g.S.Shelf c.begin-2.new.shelf in
    let third = state_of g.S.Shelf c.put_file.new.shelf in
    let fourth = state_of g.S.Shelf c.begin_results.new.shelf in
    let new = state_of g.S.Shelf c.drive_capture.new.shelf in
    let same = changes_then [] old first second c.begin.ensures.kept c.begin-2.ensures.kept in
    let begun : AreDone (head_writes names opened.magic) third fourth = subst (λ m. AreDone (head_writes names m) third fourth) c.magic.ensures c.in_ok-begin_results.ensures.done in
    let kept = begun_changes names verilog c.args.text.now opened.magic old second third fourth same c.in_ok-put_file.ensures.done begun in
    let pipeline = c.requires.pipeline in
    let plain = plain_stop pipeline.0 pipeline.1 sim.netlist sim.stored c.drive_capture.new.sim.stored driver.ifindex driver.limit c.args.survey.now.count c.in-Err.error pipeline.2 c.in-Err.ensures.some in
    over_stopped names verilog (Err c.stopped.result) c.in-Err.error old fourth new c.stopped.ensures plain kept c.in-Err.ensures.over
