use Rattle.std.proofs.Common.{[], refl, sym, ◌∙◌}
use Rattle.command_line.specs.Request.{names_of}
use Rattle.capture_run.specs.States.{state_of}
use Rattle.capture_run.proofs.RangeLaws.{packets_come}
use Rattle.ehdl_top.proofs.ReferenceLemmas.{runs_end, early_out, stopped_runs, textless_runs, unwritten_runs, written_runs}
use Rattle.ehdl_top.proofs.reference.write_runs.Goals as goal

pub returns-in_err-room-clause-told : goal.returns-in_err-room-clause-told
returns-in_err-room-clause-told g c = λ told packets holds count.
    let u = c.requires.unfolded in
    early_out (names_of c.args.files.now) c.args.program.now _ c.args.maps.now c.args.ifindex c.args.survey.now.stream.magic packets c.from_residual.result (state_of g.S.Shelf c.args.shelf.now) refl
    (runs_end c.runs_are_sound.ensures c.args.program.now u.0 _ c.args.maps.now c.requires.program u.1 refl c.requires.decls)
    (packets_come c.args.ifindex c.args.survey.now.stream ((state_of g.S.Shelf c.args.shelf.now).held c.args.files.now.capture.now) packets c.ranges.ifindex.fits holds) c.decls-held.ensures.sound c.from_residual.ensures.1

pub returns-in_err-plan-clause-told : goal.returns-in_err-plan-clause-told
returns-in_err-plan-clause-told g c = λ told packets holds count.
    let u = c.requires.unfolded in
    early_out (names_of c.args.files.now) c.args.program.now _ c.args.maps.now c.args.ifindex c.args.survey.now.stream.magic packets c.from_residual-in_err-plan.result (state_of g.S.Shelf c.args.shelf.now) refl
    (runs_end c.runs_are_sound.ensures c.args.program.now u.0 _ c.args.maps.now c.requires.program u.1 refl c.requires.decls)
    (packets_come c.args.ifindex c.args.survey.now.stream ((state_of g.S.Shelf c.args.shelf.now).held c.args.files.now.capture.now) packets c.ranges.ifindex.fits holds) c.decls-held.ensures.sound c.from_residual-in_err-plan.ensures.1

pub returns-in_err-buffer-clause-told : goal.returns-in_err-buffer-clause-told
returns-in_err-buffer-clause-told g c = λ told packets holds count.
    let u = c.requires.unfolded in
    early_out (names_of c.args.files.now) c.args.program.now _ c.args.maps.now c.args.ifindex c.args.survey.now.stream.magic packets c.from_residual-in_err-buffer.result (state_of g.S.Shelf c.args.shelf.now) refl
    (runs_end c.runs_are_sound.ensures c.args.program.now u.0 _ c.args.maps.now c.requires.program u.1 refl c.requires.decls)
    (packets_come c.args.ifindex c.args.survey.now.stream ((state_of g.S.Shelf c.args.shelf.now).held c.args.files.now.capture.now) packets c.ranges.ifindex.fits holds) c.decls-held.ensures.sound c.from_residual-in_err-buffer.ensures.1

pub stream_runs-requires-clause-ends : goal.stream_runs-requires-clause-ends
stream_runs-requires-clause-ends g c =
    let u = c.requires.unfolded in
    runs_end c.runs_are_sound.ensures c.args.program.now u.0 c.in_ok-plan.plan c.args.maps.now c.requires.program u.1 c.in_ok-plan.ensures c.requires.decls

pub returns-in_err-stream_runs-clause-told : goal.returns-in_err-stream_runs-clause-told
returns-in_err-stream_runs-clause-told g c = λ told packets holds count.
    stopped_runs (names_of c.args.files.now) c.args.program.now c.args.maps.now c.stream_runs.new.maps c.args.ifindex c.args.survey.now.stream.magic packets c.from_residual-in_err-stream_runs.result c.in_err-stream_runs.field-0.0 [] (state_of g.S.Shelf c.args.shelf.now) (state_of g.S.Shelf c.stream_runs.new.shelf)
    c.from_residual-in_err-stream_runs.ensures.1 (c.in_err-stream_runs.ensures.told told c.args.program.now c.in_ok-plan.ensures packets holds count)

pub returns-in_err-text-clause-told : goal.returns-in_err-text-clause-told
returns-in_err-text-clause-told g c = λ told packets holds count.
    textless_runs (names_of c.args.files.now) c.args.program.now c.args.maps.now c.stream_runs.new.maps c.args.ifindex c.args.survey.now.stream.magic packets [] (state_of g.S.Shelf c.args.shelf.now) (state_of g.S.Shelf c.stream_runs.new.shelf)
    (c.in_ok-stream_runs.ensures.told told c.args.program.now c.in_ok-plan.ensures packets holds count) c.from_residual-in_err-text.result c.from_residual-in_err-text.ensures.1

pub returns-in_err-put_file-clause-told : goal.returns-in_err-put_file-clause-told
returns-in_err-put_file-clause-told g c = λ told packets holds count.
    unwritten_runs (names_of c.args.files.now) c.args.program.now c.args.maps.now c.stream_runs.new.maps c.args.ifindex c.args.survey.now.stream.magic packets [] (state_of g.S.Shelf c.args.shelf.now) (state_of g.S.Shelf c.stream_runs.new.shelf)
    (c.in_ok-stream_runs.ensures.told told c.args.program.now c.in_ok-plan.ensures packets holds count) c.from_residual-in_err-put_file.result c.deref.result.now (state_of g.S.Shelf c.put_file.new.shelf) c.from_residual-in_err-put_file.ensures.1 (c.deref.ensures.value ∙ c.in_ok-text.ensures) c.in_err-put_file.ensures.failed

pub returns-clause-told : goal.returns-clause-told
returns-clause-told g c = λ told packets holds count.
    written_runs (names_of c.args.files.now) c.args.program.now c.args.maps.now c.stream_runs.new.maps c.args.ifindex c.args.survey.now.stream.magic packets [] (state_of g.S.Shelf c.args.shelf.now) (state_of g.S.Shelf c.stream_runs.new.shelf)
    (c.in_ok-stream_runs.ensures.told told c.args.program.now c.in_ok-plan.ensures packets holds count) c.deref.result.now (state_of g.S.Shelf c.put_file.new.shelf) (c.deref.ensures.value ∙ c.in_ok-text.ensures) c.in_ok-put_file.ensures.done
