use Rattle.std.proofs.Common.{◌*◌, Bool, List, length, refl, sym, subst, ◌∙◌}
use Rattle.std.proofs.lemmas.Result.{err_from_is_err_and}
use Rattle.std.proofs.lemmas.List.{nil_from_length}
use Rattle.std.proofs.lemmas.Bool.{eqb-true}
use Rattle.maps_text.proofs.Runs.{IsReading, reading_begun, reading_on, reading_ended, reading_stopped}
use Rattle.maps_text.proofs.read.read_lines.Goals as goal

pub lines-init : goal.lines-init
lines-init c =
    subst (λ (marks : List Bool). IsReading c.args.decls.now c.args.text.now c.args.text.now 0 c.in_ok-maps.maps marks) (sym (c.as_mut_slice-marks.ensures.value ∙ c.in_ok-room.ensures))
    (reading_begun c.args.decls.now c.args.text.now (length c.args.decls.now * 65536) c.in_ok-maps.maps c.in_ok-maps.ensures refl)

pub lines-preserved : goal.lines-preserved
lines-preserved c =
    reading_on c.args.decls.now c.args.text.now c.lines.rest.now c.first_line.result.0.now c.first_line.result.1.now c.lines.n c.lines.maps c.take.new.maps c.lines.marks c.take.new.marks c.lines.invariant c.first_line.ensures.lines c.first_line.ensures.shorter c.take.auto.marks c.in_ok-take.ensures

pub returns-in_err-take : goal.returns-in_err-take
returns-in_err-take c =
    let p = err_from_is_err_and c.from_residual-in_err-take.result c.from_residual-in_err-take.ensures.1 in
    rw (p.1, p.2) (reading_stopped c.args.decls.now c.args.text.now c.lines.rest.now c.first_line.result.0.now c.first_line.result.1.now c.lines.n c.lines.maps c.take.new.maps c.lines.marks c.take.new.marks c.in_err-take.field-0.0 c.lines.invariant c.first_line.ensures.lines c.in_err-take.ensures)

pub returns : goal.returns
returns c =
    reading_ended c.args.decls.now c.args.text.now c.lines.rest.now c.lines.n c.lines.maps c.lines.marks c.lines.invariant (nil_from_length c.lines.rest.now (eqb-true _ 0 (sym c.is_empty.ensures ∙ c.lines-test.false)))
