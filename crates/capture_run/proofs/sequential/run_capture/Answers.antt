use Rattle.std.proofs.Common.{◌≡◌, ◌∙◌, ◌<◌, ℕ, List, length, Result, Ok, Err, subst, sym, ap, refl, arith}
use Rattle.pcap_core.specs.Format.{Packet}
use Rattle.command_line.specs.Request.{Names, names_of}
use Rattle.capture_run.specs.States.{ShelfState, state_of}
use Rattle.capture_run.specs.Runs.{IsRunOver, RunsOut, result_names}
use Rattle.capture_run.specs.declared.error.RunError.{RunError}
use Rattle.capture_run.proofs.StateLaws.{tells_later, changes_none, changes_within, changes_then}
use Rattle.capture_run.proofs.RangeLaws.{packets_come}
use Rattle.capture_run.proofs.EndLaws.{over_then, as_error}
use Rattle.capture_run.proofs.RunLaws.{so_far_none, so_far_all, ends_later, told_next, told_ends}
use Rattle.capture_run.proofs.sequential.run_capture.Goals as goal

pub loop-index-init : goal.loop-index-init
loop-index-init g c =
    let state : ShelfState = state_of g.S.Shelf c.args.shelf.now in
    record {
      plan = refl;
      decls = refl;
      kept = changes_within (result_names (names_of c.args.files.now)) state state (changes_none state);
      told = λ tells packets holds count stands. (
        so_far_none (names_of c.args.files.now) c.args.plan.now c.args.ifindex c.args.survey.now.stream.magic packets c.args.maps.now state c.requires.ends
            (packets_come c.args.ifindex c.args.survey.now.stream (state.held c.args.files.now.capture.now) packets c.ranges.ifindex.fits holds) c.decls-decls.ensures.sound (changes_none state),
        stands,
      );
    }

pub run_next-requires-clause-ends : goal.run_next-requires-clause-ends
run_next-requires-clause-ends g c = ends_later c.args.plan.now c.loop-index.plan c.args.maps.now c.loop-index.maps c.requires.ends c.loop-index.invariant.plan c.loop-index.invariant.decls

pub returns-in_err-run_next-clause-told : goal.returns-in_err-run_next-clause-told
returns-in_err-run_next-clause-told g c = λ tells packets holds count stands.
    let names : Names = names_of c.args.files.now in
    let old : ShelfState = state_of g.S.Shelf c.args.shelf.now in
    let mid : ShelfState = state_of g.S.Shelf c.loop-index.shelf in
    let new : ShelfState = state_of g.S.Shelf c.run_next.new.shelf in
    let kept = c.loop-index.invariant.kept in
    let far = c.loop-index.invariant.told tells packets holds count stands in
    let e : RunError = c.in_err-run_next.field-0.0 in
    let below : c.loop-index.index < length packets = omega (arith, count, c.loop-index-test.true) in
    let P : Result (Unit {0}) RunError → Type 0 = λ r. RunsOut names c.args.plan.now c.args.ifindex c.args.survey.now.stream.magic packets c.args.maps.now c.run_next.new.maps r old new in
    subst P (sym (as_error c.from_residual.result e c.from_residual.ensures.1))
    (told_ends names c.args.plan.now c.loop-index.plan c.args.ifindex c.args.survey.now.stream packets c.loop-index.index c.args.maps.now c.loop-index.maps c.run_next.new.maps old mid new c.loop-index.records c.run_next.new.records (Err e) far.0 far.1
    c.loop-index.invariant.plan (kept.others names.capture (c.requires.apart.capture_answer, (c.requires.apart.capture_verdicts, tt))) below (c.in_err-run_next.ensures.told (tells_later old mid kept.later tells)) e refl)

pub returns-in_err-run_next-clause-over : goal.returns-in_err-run_next-clause-over
returns-in_err-run_next-clause-over g c =
    let names : Names = names_of c.args.files.now in
    let old : ShelfState = state_of g.S.Shelf c.args.shelf.now in
    let e : RunError = c.in_err-run_next.field-0.0 in
    let P : Result (Unit {0}) RunError → Type 0 = λ r. IsRunOver names.capture (result_names names) r old (state_of g.S.Shelf c.run_next.new.shelf) in
    subst P (sym (as_error c.from_residual.result e c.from_residual.ensures.1))
    (over_then names.capture (result_names names) (Err e) old (state_of g.S.Shelf c.loop-index.shelf) (state_of g.S.Shelf c.run_next.new.shelf) c.loop-index.invariant.kept c.in_err-run_next.ensures.over)

pub returns-in_err-run_next-clause-errors : goal.returns-in_err-run_next-clause-errors
returns-in_err-run_next-clause-errors g c = λ none. c.in_err-run_next.ensures.errors (sym (as_error c.from_residual.result c.in_err-run_next.field-0.0 c.from_residual.ensures.1) ∙ none)

pub returns-in_err-run_next-clause-decls : goal.returns-in_err-run_next-clause-decls
returns-in_err-run_next-clause-decls g c = c.in_err-run_next.ensures.decls ∙ c.loop-index.invariant.decls

pub loop-index-preserved : goal.loop-index-preserved
loop-index-preserved g c =
    let names : Names = names_of c.args.files.now in
    let old : ShelfState = state_of g.S.Shelf c.args.shelf.now in
    let mid : ShelfState = state_of g.S.Shelf c.loop-index.shelf in
    let new : ShelfState = state_of g.S.Shelf c.run_next.new.shelf in
    let kept = c.loop-index.invariant.kept in
    record {
      plan = c.in_ok-run_next.ensures.plan ∙ c.loop-index.invariant.plan;
      decls = c.in_ok-run_next.ensures.decls ∙ c.loop-index.invariant.decls;
      kept = changes_then (result_names names) old mid new kept c.in_ok-run_next.ensures.over.kept;
      told = λ tells packets holds count stands.
          let far = c.loop-index.invariant.told tells packets holds count stands in
          let below : c.loop-index.index < length packets = omega (arith, count, c.loop-index-test.true) in
          told_next names c.args.plan.now c.loop-index.plan c.args.ifindex c.args.survey.now.stream packets c.loop-index.index c.args.maps.now c.loop-index.maps c.run_next.new.maps old mid new c.loop-index.records c.run_next.new.records (Ok tt) far.0 far.1
          c.loop-index.invariant.plan (kept.others names.capture (c.requires.apart.capture_answer, (c.requires.apart.capture_verdicts, tt))) below (c.in_ok-run_next.ensures.told (tells_later old mid kept.later tells)) _ refl refl
          (c.in_ok-run_next.ensures.stands (tells_later old mid kept.later tells));
    }

pub returns-clause-told : goal.returns-clause-told
returns-clause-told g c = λ tells packets holds count stands.
    let far = c.loop-index.invariant.told tells packets holds count stands in
    so_far_all (names_of c.args.files.now) c.args.plan.now c.args.ifindex c.args.survey.now.stream.magic packets c.loop-index.index c.args.maps.now c.loop-index.maps (state_of g.S.Shelf c.args.shelf.now) (state_of g.S.Shelf c.loop-index.shelf)
    far.0 (omega (arith, count, c.loop-index-test.false, c.loop-index.auto.index-end))
