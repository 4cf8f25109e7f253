use Rattle.command_line.specs.Rows.{values_from}
use Rattle.command_line.specs.Request.{names_of}
use Rattle.command_line.proofs.Nones.{if_none}
use Rattle.command_line.proofs.Once.{run_alone, text_of}
use Rattle.command_line.proofs.read.read_run.Goals as goal

pub returns-in_err-files-clause-none : goal.returns-in_err-files-clause-none
returns-in_err-files-clause-none c = if_none c.from_residual.result (run_alone c.args.name.now (values_from c.args.matches.now) c.requires (λ names verilog selected ifindex means. c.in_err-files.ensures.none names means.gives_run.gives_files))

pub returns-in_err-verilog-clause-none : goal.returns-in_err-verilog-clause-none
returns-in_err-verilog-clause-none c = if_none c.from_residual-in_err-verilog.result (run_alone c.args.name.now (values_from c.args.matches.now) c.requires (λ names verilog selected ifindex means. c.in_err-verilog.ensures.none verilog (text_of (values_from c.args.matches.now) names (names_of c.in_ok-files.files) verilog means.gives_run.gives_files c.in_ok-files.ensures.some means.gives_text)))

pub returns-in_err-choice-clause-none : goal.returns-in_err-choice-clause-none
returns-in_err-choice-clause-none c = if_none c.from_residual-in_err-choice.result (run_alone c.args.name.now (values_from c.args.matches.now) c.requires (λ names verilog selected ifindex means. c.in_err-choice.ensures.none selected means.gives_run.gives_selected))

pub returns-in_err-ifindex-clause-none : goal.returns-in_err-ifindex-clause-none
returns-in_err-ifindex-clause-none c = if_none c.from_residual-in_err-ifindex.result (run_alone c.args.name.now (values_from c.args.matches.now) c.requires (λ names verilog selected ifindex means. c.in_err-ifindex.ensures.none ifindex means.gives_run.gives_ifindex))
