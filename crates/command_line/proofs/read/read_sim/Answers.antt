use Rattle.command_line.specs.Rows.{values_from}
use Rattle.command_line.specs.Request.{names_of}
use Rattle.command_line.proofs.Nones.{if_none}
use Rattle.command_line.proofs.Once.{sim_alone, text_of}
use Rattle.command_line.proofs.read.read_sim.Goals as goal

pub returns-in_err-files-clause-none : goal.returns-in_err-files-clause-none
returns-in_err-files-clause-none c = if_none c.from_residual.result (sim_alone c.args.name.now (values_from c.args.matches.now) c.requires (λ names verilog selected ifindex clocks events means. c.in_err-files.ensures.none names means.gives_run.gives_files))

pub returns-in_err-verilog-clause-none : goal.returns-in_err-verilog-clause-none
returns-in_err-verilog-clause-none c = if_none c.from_residual-in_err-verilog.result (sim_alone c.args.name.now (values_from c.args.matches.now) c.requires (λ names verilog selected ifindex clocks events means. c.in_err-verilog.ensures.none verilog (text_of (values_from c.args.matches.now) names (names_of c.in_ok-files.files) verilog means.gives_run.gives_files c.in_ok-files.ensures.some means.gives_text)))

pub returns-in_err-choice-clause-none : goal.returns-in_err-choice-clause-none
returns-in_err-choice-clause-none c = if_none c.from_residual-in_err-choice.result (sim_alone c.args.name.now (values_from c.args.matches.now) c.requires (λ names verilog selected ifindex clocks events means. c.in_err-choice.ensures.none selected means.gives_run.gives_selected))

pub returns-in_err-ifindex-clause-none : goal.returns-in_err-ifindex-clause-none
returns-in_err-ifindex-clause-none c = if_none c.from_residual-in_err-ifindex.result (sim_alone c.args.name.now (values_from c.args.matches.now) c.requires (λ names verilog selected ifindex clocks events means. c.in_err-ifindex.ensures.none ifindex means.gives_run.gives_ifindex))

pub returns-in_err-clocks-clause-none : goal.returns-in_err-clocks-clause-none
returns-in_err-clocks-clause-none c = if_none c.from_residual-in_err-clocks.result (sim_alone c.args.name.now (values_from c.args.matches.now) c.requires (λ names verilog selected ifindex clocks events means. c.in_err-clocks.ensures.none clocks means.gives_clocks))

pub returns-in_err-events-clause-none : goal.returns-in_err-events-clause-none
returns-in_err-events-clause-none c = if_none c.from_residual-in_err-events.result (sim_alone c.args.name.now (values_from c.args.matches.now) c.requires (λ names verilog selected ifindex clocks events means. c.in_err-events.ensures.none events means.gives_events))
