use Rattle.std.proofs.Common.{◌≡◌, ◌<◌, ◌-◌, length, ap, subst}
use Rattle.std.specs.Prelude.{IfSome}
use Rattle.beat_core.specs.declared.frame.TheConstants.{FRAME_LIMIT}
use Rattle.command_line.specs.Request.{names_of}
use Rattle.capture_run.specs.States.{state_of}
use Rattle.capture_run.specs.Captures.{packet_with}
use Rattle.capture_run.specs.Results.{answer_writes}
use Rattle.capture_run.specs.Driving.{WritesAnswer}
use Rattle.capture_run.proofs.RunOverLaws.{Puts}
use Rattle.capture_run.proofs.ToldLaws.{writes_told, unread_told}
use Rattle.capture_run.proofs.driven.write_answer.Goals as goal

pub returns-in_err-stamp-clause-told : goal.returns-in_err-stamp-clause-told
returns-in_err-stamp-clause-told g c = λ told p rest stands.
    let held = g.S.Shelf.held c.args.shelf.now c.args.files.now.capture.now in
    unread_told c.from_residual.result c.args.driver.now.last (names_of c.args.files.now) c.args.survey.now.stream held p rest c.next.new.self (c.args.driver.now.answers - 1) c.in_err-stamp.field-0.0 (state_of g.S.Shelf c.args.shelf.now) (state_of g.S.Shelf c.next.new.shelf) c.from_residual.ensures.1
    (c.in_err-stamp.ensures.gives told _ stands) c.in_err-stamp.ensures.kept

pub returns-clause-told : goal.returns-clause-told
returns-clause-told g c = λ told p rest stands.
    let held = g.S.Shelf.held c.args.shelf.now c.args.files.now.capture.now in
    let given = c.in_ok-stamp.ensures.gives told _ stands in
    let index : c.answers-index.result - 1 ≡ c.args.driver.now.answers - 1 = ap (λ k. k - 1) c.answers-index.ensures in
    let puts : Puts c.put_answer.result (answer_writes (names_of c.args.files.now) (packet_with c.in_ok-stamp.stamp c.bytes.result.now) (c.answers-index.result - 1) (record { verdict = c.verdict.result; target = c.target.result; frame = c.bytes.result.now })) (FRAME_LIMIT < length c.bytes.result.now) (state_of g.S.Shelf c.next.new.shelf) (state_of g.S.Shelf c.put_answer.new.shelf) =
    record { done = c.put_answer.ensures.done; failed = c.put_answer.ensures.failed; memory = λ e. ((c.put_answer.ensures.memory e).0, ap (λ s. state_of g.S.Shelf s) (c.put_answer.ensures.memory e).1); errors = c.put_answer.ensures.errors } in
    subst (λ k. IfSome c.args.driver.now.last (λ answer. WritesAnswer c.put_answer.result (names_of c.args.files.now) c.args.survey.now.stream held p rest c.next.new.self k answer (state_of g.S.Shelf c.args.shelf.now) (state_of g.S.Shelf c.put_answer.new.shelf))) index
    (writes_told c.args.driver.now.last (names_of c.args.files.now) c.args.survey.now.stream held p rest c.next.new.self (c.answers-index.result - 1) c.put_answer.result (state_of g.S.Shelf c.args.shelf.now) (state_of g.S.Shelf c.next.new.shelf) (state_of g.S.Shelf c.put_answer.new.shelf) c.in_ok-stamp.stamp c.next.new.self.feed.given c.verdict.result c.target.result c.bytes.result.now (FRAME_LIMIT < length c.bytes.result.now)
    (rw c.answer-answer.ensures.last at c.verdict.ensures) (rw c.answer-answer.ensures.last at c.target.ensures) (rw c.answer-answer.ensures.last at c.bytes.ensures) given.0 given.1 c.in_ok-stamp.ensures.kept puts)
