use Rattle.std.proofs.Common.{None, Ok, ◌∷◌, [], ap, refl, subst, inl}
use Rattle.xdp_object.specs.Choice.{chosen_of}
use Rattle.command_line.specs.Request.{AskPrepare}
use Rattle.capture_run.specs.States.{state_of}
use Rattle.capture_run.specs.Writes.{AreDone, file_writes}
use Rattle.ehdl_top.specs.Steps.{IsReplyTo}
use Rattle.ehdl_top.proofs.PrepareLemmas.{prepare_makes, prepare_lines_of}
use Rattle.ehdl_top.proofs.EndLemmas.{ends_as, ends_unwritten, ends_done}
use Rattle.ehdl_top.proofs.prepare.prepare_file.Goals as goal

pub returns-in_err-put_file-clause-ends : goal.returns-in_err-put_file-clause-ends
returns-in_err-put_file-clause-ends g c =
    let read = c.in_ok-prepared.ensures.read in
    let is = subst (IsReplyTo (chosen_of c.args.choice) read.0) c.in-Given.is read.2 in
    let ws = file_writes c.args.output.now c.deref.result.now in
    ends_unwritten (AskPrepare c.args.object.now c.args.output.now (chosen_of c.args.choice)) None (state_of g.S.Shelf c.args.shelf.now) (state_of g.S.Shelf c.read_input.new.shelf) (state_of g.S.Shelf c.put_file.new.shelf) ws
    c.from_residual-in_err-put_file.result c.from_residual-in_err-put_file.ensures.1 (inl refl, (inl refl, tt)) c.read_input.ensures.kept
    (prepare_makes c.args.object.now c.args.output.now (chosen_of c.args.choice) (state_of g.S.Shelf c.args.shelf.now) read.0 read.1 c.in-Given.prepared ws is (ap (λ t. file_writes c.args.output.now t) c.deref.ensures.value)) c.in_err-put_file.ensures.failed

pub returns-clause-ends : goal.returns-clause-ends
returns-clause-ends g c =
    let read = c.in_ok-prepared.ensures.read in
    let is = subst (IsReplyTo (chosen_of c.args.choice) read.0) c.in-Given.is read.2 in
    let ws = file_writes c.args.output.now c.deref.result.now in
    let asked = AskPrepare c.args.object.now c.args.output.now (chosen_of c.args.choice) in
    let old = state_of g.S.Shelf c.args.shelf.now in
    let new = state_of g.S.Shelf c.put_file.new.shelf in
    ends_as asked old new (Ok tt) (Ok c.in_ok-lines.lines) tt
    (ends_done asked old (state_of g.S.Shelf c.read_input.new.shelf) new ws refl (inl refl, (inl refl, tt)) c.read_input.ensures.kept
    (prepare_makes c.args.object.now c.args.output.now (chosen_of c.args.choice) old read.0 read.1 c.in-Given.prepared ws is (ap (λ t. file_writes c.args.output.now t) c.deref.ensures.value)) c.in_ok-put_file.ensures.done)

pub returns-clause-lines : goal.returns-clause-lines
returns-clause-lines g c =
    let read = c.in_ok-prepared.ensures.read in
    let is = subst (IsReplyTo (chosen_of c.args.choice) read.0) c.in-Given.is read.2 in
    let done = subst (λ t. AreDone (file_writes c.args.output.now t) (state_of g.S.Shelf c.read_input.new.shelf) (state_of g.S.Shelf c.put_file.new.shelf)) c.deref.ensures.value c.in_ok-put_file.ensures.done in
    λ told. prepare_lines_of c.args.object.now c.args.output.now (chosen_of c.args.choice) (state_of g.S.Shelf c.args.shelf.now) read.0 read.1
    (state_of g.S.Shelf c.read_input.new.shelf) (state_of g.S.Shelf c.put_file.new.shelf) c.in-Given.prepared c.in_ok-lines.lines.items is c.in_ok-lines.ensures c.read_input.ensures.kept done told
