use Rattle.std.proofs.Common.{ℕ, List, subst}
use Rattle.capture_run.specs.States.{state_of}
use Rattle.capture_run.specs.Writes.{Begin, AreDone, file_writes}
use Rattle.capture_run.specs.Results.{answer_header}
use Rattle.capture_run.proofs.WriteLaws.{ok_more, err_more}
use Rattle.capture_run.proofs.results.begin_results.Goals as goal

pub returns-clause-done : goal.returns-clause-done
returns-clause-done g c =
    let P : List ℕ → Type 0 = λ bytes. AreDone (file_writes c.args.files.now.answer.now bytes) (state_of g.S.Shelf c.args.shelf.now) (state_of g.S.Shelf c.put_file.new.shelf) in
    ok_more c.begin.result (file_writes c.args.files.now.answer.now (answer_header c.args.magic)) (Begin c.args.files.now.verdicts.now)
    (state_of g.S.Shelf c.args.shelf.now) (state_of g.S.Shelf c.put_file.new.shelf) (state_of g.S.Shelf c.begin.new.shelf) (subst P c.write_header.ensures c.in_ok-put_file.ensures.done) c.begin.ensures.done

pub returns-clause-failed : goal.returns-clause-failed
returns-clause-failed g c =
    let P : List ℕ → Type 0 = λ bytes. AreDone (file_writes c.args.files.now.answer.now bytes) (state_of g.S.Shelf c.args.shelf.now) (state_of g.S.Shelf c.put_file.new.shelf) in
    err_more c.begin.result (file_writes c.args.files.now.answer.now (answer_header c.args.magic)) (Begin c.args.files.now.verdicts.now)
    (state_of g.S.Shelf c.args.shelf.now) (state_of g.S.Shelf c.put_file.new.shelf) (state_of g.S.Shelf c.begin.new.shelf) (subst P c.write_header.ensures c.in_ok-put_file.ensures.done) c.begin.ensures.failed
