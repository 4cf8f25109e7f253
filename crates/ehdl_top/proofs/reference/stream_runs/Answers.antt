use Rattle.std.proofs.Common.{◌≡◌, ◌++◌, Err, length, map, refl, sym, subst}
use Rattle.command_line.specs.Request.{names_of}
use Rattle.capture_run.specs.States.{state_of}
use Rattle.capture_run.specs.Writes.{AreDone, OneFailed}
use Rattle.capture_run.specs.Results.{head_writes, packet_writes, streamed_writes}
use Rattle.capture_run.specs.Runs.{answers_left, packet_in, result_names}
use Rattle.capture_run.proofs.StateLaws.{changes_then, changes_within, tells_later}
use Rattle.capture_run.proofs.WriteLaws.{done_from, failed_from, done_both, failed_before, done_changes}
use Rattle.capture_run.proofs.RunLaws.{runs_exist}
use Rattle.ehdl_top.specs.declared.error.CommandError.{CommandError}
use Rattle.ehdl_top.specs.declared.error.CommandError.TheVariants as error
use Rattle.ehdl_top.specs.Steps.{StreamOut, capture_error}
use Rattle.capture_run.proofs.RangeLaws.{packets_come}
use Rattle.ehdl_top.proofs.ReferenceLemmas.{sequential_of, held_later, stop_out, begin_out, is_error}
use Rattle.ehdl_top.proofs.reference.stream_runs.Goals as goal
use Rattle.ehdl_top.proofs.StreamLemmas.{apart_of, head_of, holds_still, stands_still}

pub returns-in_err-begin-clause-told : goal.returns-in_err-begin-clause-told
returns-in_err-begin-clause-told g c = λ told program is packets holds count.
    let names = names_of c.args.files.now in
    let opened = c.args.survey.now.stream in
    let old = state_of g.S.Shelf c.args.shelf.now in
    let new = state_of g.S.Shelf c.begin.new.shelf in
    let all = runs_exist c.args.plan.now c.args.maps.now c.args.maps.now (map (packet_in c.args.ifindex opened.magic) packets) c.requires.ends (packets_come c.args.ifindex opened (old.held names.capture) packets c.ranges.ifindex.fits holds) c.decls-held.ensures.sound refl in
    let ws = streamed_writes names opened.magic packets (answers_left all.0) in
    record {
      answers = answers_left all.0;
      final = all.1;
      runs = sequential_of program c.args.plan.now c.args.maps.now all.1 c.args.ifindex opened.magic packets all.0 is all.2;
      out = is_error (λ r. StreamOut r ws (c.args.maps.now ≡ all.1) old new) c.from_residual.result (capture_error c.in_err-begin.field-0.0) c.from_residual.ensures.1
          (begin_out c.in_err-begin.field-0.0 ws (c.args.maps.now ≡ all.1) old new (c.in_err-begin.ensures.begins told opened packets holds) c.in_err-begin.ensures.kept);
    }

pub returns-in_err-begin_results-clause-told : goal.returns-in_err-begin_results-clause-told
returns-in_err-begin_results-clause-told g c = λ told program is packets holds count.
    let names = names_of c.args.files.now in
    let opened = c.args.survey.now.stream in
    let old = state_of g.S.Shelf c.args.shelf.now in
    let mid = state_of g.S.Shelf c.begin.new.shelf in
    let new = state_of g.S.Shelf c.begin_results.new.shelf in
    let all = runs_exist c.args.plan.now c.args.maps.now c.args.maps.now (map (packet_in c.args.ifindex opened.magic) packets) c.requires.ends (packets_come c.args.ifindex opened (old.held names.capture) packets c.ranges.ifindex.fits holds) c.decls-held.ensures.sound refl in
    let ws = streamed_writes names opened.magic packets (answers_left all.0) in
    let head : OneFailed (head_writes names opened.magic) mid new = subst (λ m. OneFailed (head_writes names m) mid new) c.magic.ensures c.in_err-begin_results.ensures.failed in
    record {
      answers = answers_left all.0;
      final = all.1;
      runs = sequential_of program c.args.plan.now c.args.maps.now all.1 c.args.ifindex opened.magic packets all.0 is all.2;
      out = is_error (λ r. StreamOut r ws (c.args.maps.now ≡ all.1) old new) c.from_residual-in_err-begin_results.result error.WriteFault c.from_residual-in_err-begin_results.ensures.1
          (failed_from ws old mid new c.in_ok-begin.ensures.kept (failed_before (head_writes names opened.magic) (packet_writes names packets (answers_left all.0) (length (answers_left all.0))) mid new head));
    }

pub stopped-requires : goal.stopped-requires
stopped-requires g c = c.in-Err.ensures.plain

pub returns-in-Ok-clause-told : goal.returns-in-Ok-clause-told
returns-in-Ok-clause-told g c = λ told program is packets holds count.
    let names = names_of c.args.files.now in
    let opened = c.args.survey.now.stream in
    let old = state_of g.S.Shelf c.args.shelf.now in
    let mid = state_of g.S.Shelf c.begin.new.shelf in
    let begun = state_of g.S.Shelf c.begin_results.new.shelf in
    let new = state_of g.S.Shelf c.run_capture.new.shelf in
    let apart = apart_of names c.requires.apart in
    let hw = head_writes names opened.magic in
    let head : AreDone hw mid begun = subst (λ m. AreDone (head_writes names m) mid begun) c.magic.ensures c.in_ok-begin_results.ensures.done in
    let changed = changes_then (result_names names) old mid begun (changes_within (result_names names) old mid c.in_ok-begin.ensures.kept) (done_changes (result_names names) hw mid begun (head_of names opened.magic) head) in
    let same = held_later names.capture (result_names names) old begun changed (apart.capture_answer, (apart.capture_verdicts, tt)) in
    let ran = c.in-Ok.ensures.told (tells_later old begun changed.later told) packets (holds_still opened packets old begun names.capture same holds) count
    (stands_still opened c.begin.new.self packets old begun names.capture same (c.in_ok-begin.ensures.begins told opened packets holds)) in
    let pw = packet_writes names packets (answers_left ran.leaves) (length (answers_left ran.leaves)) in
    record {
      answers = answers_left ran.leaves;
      final = ran.final;
      runs = sequential_of program c.args.plan.now c.args.maps.now ran.final c.args.ifindex opened.magic packets ran.leaves is ran.runs;
      out = (ran.out.0, done_from (hw ++ pw) old mid new c.in_ok-begin.ensures.kept (done_both hw pw mid begun new head ran.out.1));
    }

pub returns-in-Err-clause-told : goal.returns-in-Err-clause-told
returns-in-Err-clause-told g c = λ told program is packets holds count.
    let names = names_of c.args.files.now in
    let opened = c.args.survey.now.stream in
    let old = state_of g.S.Shelf c.args.shelf.now in
    let mid = state_of g.S.Shelf c.begin.new.shelf in
    let begun = state_of g.S.Shelf c.begin_results.new.shelf in
    let new = state_of g.S.Shelf c.run_capture.new.shelf in
    let apart = apart_of names c.requires.apart in
    let hw = head_writes names opened.magic in
    let head : AreDone hw mid begun = subst (λ m. AreDone (head_writes names m) mid begun) c.magic.ensures c.in_ok-begin_results.ensures.done in
    let changed = changes_then (result_names names) old mid begun (changes_within (result_names names) old mid c.in_ok-begin.ensures.kept) (done_changes (result_names names) hw mid begun (head_of names opened.magic) head) in
    let same = held_later names.capture (result_names names) old begun changed (apart.capture_answer, (apart.capture_verdicts, tt)) in
    let ran = c.in-Err.ensures.told (tells_later old begun changed.later told) packets (holds_still opened packets old begun names.capture same holds) count
    (stands_still opened c.begin.new.self packets old begun names.capture same (c.in_ok-begin.ensures.begins told opened packets holds)) in
    let pw = packet_writes names packets (answers_left ran.leaves) (length (answers_left ran.leaves)) in
    record {
      answers = answers_left ran.leaves;
      final = ran.final;
      runs = sequential_of program c.args.plan.now c.args.maps.now ran.final c.args.ifindex opened.magic packets ran.leaves is ran.runs;
      out = subst (λ e. StreamOut (Err e) (hw ++ pw) (c.run_capture.new.maps ≡ ran.final) old new) (sym c.stopped.ensures)
          (stop_out c.in-Err.error hw pw (c.run_capture.new.maps ≡ ran.final) (c.run_capture.new.maps ≡ ran.final) old begun new (done_from hw old mid begun c.in_ok-begin.ensures.kept head) ran.out);
    }
