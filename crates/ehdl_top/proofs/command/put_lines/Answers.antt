use Rattle.std.proofs.Common.{◌≡◌, ◌∙◌, ℕ, IsTrue, List, Some, subst, arith}
use Rattle.shelf_core.specs.Shelf.{LeavesFront, appended}
use Rattle.capture_run.specs.States.{sink_of}
use Rattle.ehdl_top.proofs.ErrorLemmas.{on_err}
use Rattle.ehdl_top.proofs.PutLemmas.{put_next, cut_at}
use Rattle.ehdl_top.proofs.command.put_lines.Goals as goal

pub returns-in_err-put-clause-cut : goal.returns-in_err-put-clause-cut
returns-in_err-put-clause-cut g c =
    let now = sink_of g.O.Sink c.loop-line.out in
    let new = sink_of g.O.Sink c.put.new.self in
    let P : List ℕ → Type 0 = λ line. IsTrue now.tells → LeavesFront now.taken line new.taken in
    on_err c.from_residual.result
    (cut_at c.args.lines.now c.loop-line.line-index c.line-item.result (sink_of g.O.Sink c.args.out.now) now new c.loop-line-test.true c.line-item.is
    c.loop-line.invariant.put c.loop-line.invariant.later (subst P c.bytes.ensures c.in_err-put.ensures.kept) c.in_err-put.ensures.failed)

pub loop-line-preserved : goal.loop-line-preserved
loop-line-preserved g c =
    let old = sink_of g.O.Sink c.args.out.now in
    let now = sink_of g.O.Sink c.loop-line.out in
    let new = sink_of g.O.Sink c.put.new.self in
    let P : List ℕ → Type 0 = λ line. IsTrue now.tells → new.taken ≡ Some (appended now.taken line) in
    record {
      put = put_next c.args.lines.now c.loop-line.line-index c.line-item.result old now new c.loop-line-test.true c.line-item.is c.loop-line.invariant.put c.loop-line.invariant.later (subst P c.bytes.ensures c.in_ok-put.ensures.put);
      none = λ first. absurd (omega (arith, first));
      later = record { tells = c.in_ok-put.ensures.tells ∙ c.loop-line.invariant.later.tells; faults = omega (arith, c.in_ok-put.ensures.count, c.loop-line.invariant.later.faults) };
    }
