use Rattle.std.proofs.Common.{◌∙◌, sym}
use Rattle.std.proofs.lemmas.Slice.Eq.{bytes_eq-Decides}
use Rattle.command_line.specs.Rows.{values_from}
use Rattle.command_line.proofs.Nones.{if_none}
use Rattle.command_line.proofs.Once.{prepare_alone, same_value}
use Rattle.command_line.proofs.read.read_prepare.Goals as goal

pub returns-in_err-object-clause-none : goal.returns-in_err-object-clause-none
returns-in_err-object-clause-none c = if_none c.from_residual.result (prepare_alone c.args.name.now (values_from c.args.matches.now) c.requires (λ object output selected means. c.in_err-object.ensures.none object means.gives_object))

pub returns-in_err-output-clause-none : goal.returns-in_err-output-clause-none
returns-in_err-output-clause-none c = if_none c.from_residual-in_err-output.result (prepare_alone c.args.name.now (values_from c.args.matches.now) c.requires (λ object output selected means. c.in_err-output.ensures.none output means.gives_output))

pub returns-in_err-choice-clause-none : goal.returns-in_err-choice-clause-none
returns-in_err-choice-clause-none c = if_none c.from_residual-in_err-choice.result (prepare_alone c.args.name.now (values_from c.args.matches.now) c.requires (λ object output selected means. c.in_err-choice.ensures.none selected means.gives_selected))

pub returns-then-eq-clause-none : goal.returns-then-eq-clause-none
returns-then-eq-clause-none c = prepare_alone c.args.name.now (values_from c.args.matches.now) c.requires (λ object output selected means.
    means.apart (same_value _ object c.in_ok-object.object.now means.gives_object c.in_ok-object.ensures.some
    ∙ (bytes_eq-Decides c.in_ok-object.object.now c.in_ok-output.output.now).0 (sym c.eq.ensures ∙ c.if-eq.true)
    ∙ same_value _ c.in_ok-output.output.now output c.in_ok-output.ensures.some means.gives_output))
