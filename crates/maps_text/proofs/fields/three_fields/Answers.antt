use Rattle.std.proofs.Common.{sym, ap, ◌∙◌}
use Rattle.std.specs.Option.{option_copied}
use Rattle.maps_text.proofs.Entries.{one_field, two_fields, three_are, more_fields}
use Rattle.maps_text.proofs.fields.three_fields.Goals as goal

pub returns-in_err-rest : goal.returns-in_err-rest
returns-in_err-rest c =
    rw c.from_residual.ensures (one_field c.args.line.now c.cut.result.0.now c.cut.ensures.part (sym (ap option_copied c.in_err-rest.was) ∙ c.cut.ensures.rest))

pub returns-in_err-later : goal.returns-in_err-later
returns-in_err-later c =
    rw c.from_residual-in_err-later.ensures (two_fields c.args.line.now c.cut.result.0.now c.cut-2.result.0.now c.in_ok-rest.rest.now c.cut.ensures.part (sym (ap option_copied c.in_ok-rest.was) ∙ c.cut.ensures.rest) c.cut-2.ensures.part (sym (ap option_copied c.in_err-later.was) ∙ c.cut-2.ensures.rest))

pub returns-in-None : goal.returns-in-None
returns-in-None c =
    three_are c.args.line.now c.cut.result.0.now c.cut-2.result.0.now c.cut-3.result.0.now c.in_ok-rest.rest.now c.in_ok-later.later.now _ c.cut.ensures.part (sym (ap option_copied c.in_ok-rest.was) ∙ c.cut.ensures.rest) c.cut-2.ensures.part (sym (ap option_copied c.in_ok-later.was) ∙ c.cut-2.ensures.rest) c.cut-3.ensures.part (sym (ap option_copied c.in-None.is) ∙ c.cut-3.ensures.rest)

pub returns-in-Some : goal.returns-in-Some
returns-in-Some c =
    more_fields c.args.line.now c.cut.result.0.now c.cut-2.result.0.now c.cut-3.result.0.now c.in_ok-rest.rest.now c.in_ok-later.later.now _ c.cut.ensures.part (sym (ap option_copied c.in_ok-rest.was) ∙ c.cut.ensures.rest) c.cut-2.ensures.part (sym (ap option_copied c.in_ok-later.was) ∙ c.cut-2.ensures.rest) c.cut-3.ensures.part (sym (ap option_copied c.in-Some.is) ∙ c.cut-3.ensures.rest)
