use Rattle.command_line.specs.Rows.{values_from}
use Rattle.command_line.proofs.Nones.{if_none}
use Rattle.command_line.proofs.Once.{report_alone}
use Rattle.command_line.proofs.read.read_report.Goals as goal

pub returns-in_err-object-clause-none : goal.returns-in_err-object-clause-none
returns-in_err-object-clause-none c = if_none c.from_residual.result (report_alone c.args.name.now (values_from c.args.matches.now) c.requires (λ object selected means. c.in_err-object.ensures.none object means.gives_object))

pub returns-in_err-choice-clause-none : goal.returns-in_err-choice-clause-none
returns-in_err-choice-clause-none c = if_none c.from_residual-in_err-choice.result (report_alone c.args.name.now (values_from c.args.matches.now) c.requires (λ object selected means. c.in_err-choice.ensures.none selected means.gives_selected))
