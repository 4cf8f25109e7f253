use Rattle.std.proofs.Common.{◌∙◌, sym}
use Rattle.std.proofs.lemmas.Slice.Eq.{bytes_eq-Decides}
use Rattle.command_line.specs.Rows.{values_from}
use Rattle.command_line.proofs.Nones.{if_none}
use Rattle.command_line.proofs.Once.{compile_alone, same_value}
use Rattle.command_line.proofs.read.read_compile.Goals as goal

pub returns-in_err-object-clause-none : goal.returns-in_err-object-clause-none
returns-in_err-object-clause-none c = if_none c.from_residual.result (compile_alone c.args.name.now (values_from c.args.matches.now) c.requires (λ object verilog selected means. c.in_err-object.ensures.none object means.gives_object))

pub returns-in_err-verilog-clause-none : goal.returns-in_err-verilog-clause-none
returns-in_err-verilog-clause-none c = if_none c.from_residual-in_err-verilog.result (compile_alone c.args.name.now (values_from c.args.matches.now) c.requires (λ object verilog selected means. c.in_err-verilog.ensures.none verilog means.gives_verilog))

pub returns-in_err-choice-clause-none : goal.returns-in_err-choice-clause-none
returns-in_err-choice-clause-none c = if_none c.from_residual-in_err-choice.result (compile_alone c.args.name.now (values_from c.args.matches.now) c.requires (λ object verilog selected means. c.in_err-choice.ensures.none selected means.gives_selected))

pub returns-then-eq-clause-none : goal.returns-then-eq-clause-none
returns-then-eq-clause-none c = compile_alone c.args.name.now (values_from c.args.matches.now) c.requires (λ object verilog selected means.
    means.apart (same_value _ object c.in_ok-object.object.now means.gives_object c.in_ok-object.ensures.some
    ∙ (bytes_eq-Decides c.in_ok-object.object.now c.in_ok-verilog.verilog.now).0 (sym c.eq.ensures ∙ c.if-eq.true)
    ∙ same_value _ c.in_ok-verilog.verilog.now verilog c.in_ok-verilog.ensures.some means.gives_verilog))
