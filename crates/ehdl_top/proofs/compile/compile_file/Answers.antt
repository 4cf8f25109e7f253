use Rattle.std.proofs.Common.{None, ◌∷◌, [], ap, refl, inl}
use Rattle.xdp_object.specs.Choice.{chosen_of}
use Rattle.command_line.specs.Request.{AskCompile}
use Rattle.capture_run.specs.States.{state_of}
use Rattle.capture_run.specs.Writes.{file_writes}
use Rattle.ehdl_top.proofs.OutcomeLemmas.{compile_makes}
use Rattle.ehdl_top.proofs.EndLemmas.{ends_unwritten, ends_done}
use Rattle.ehdl_top.proofs.compile.compile_file.Goals as goal

pub returns-in_err-put_file : goal.returns-in_err-put_file
returns-in_err-put_file g c =
    let read = c.in_ok-built.ensures.read in
    let ws = file_writes c.args.verilog.now c.deref.result.now in
    ends_unwritten (AskCompile c.args.object.now c.args.verilog.now (chosen_of c.args.choice)) None (state_of g.S.Shelf c.args.shelf.now) (state_of g.S.Shelf c.read_input.new.shelf) (state_of g.S.Shelf c.put_file.new.shelf) ws
    c.from_residual-in_err-put_file.result c.from_residual-in_err-put_file.ensures.1 (inl refl, (inl refl, tt)) c.read_input.ensures.kept
    (compile_makes c.args.object.now c.args.verilog.now (chosen_of c.args.choice) (state_of g.S.Shelf c.args.shelf.now) read.0 c.in_ok-built.built ws read.1 read.2 (ap (λ t. file_writes c.args.verilog.now t) c.deref.ensures.value)) c.in_err-put_file.ensures.failed

pub returns : goal.returns
returns g c =
    let read = c.in_ok-built.ensures.read in
    let ws = file_writes c.args.verilog.now c.deref.result.now in
    ends_done (AskCompile c.args.object.now c.args.verilog.now (chosen_of c.args.choice)) (state_of g.S.Shelf c.args.shelf.now) (state_of g.S.Shelf c.read_input.new.shelf) (state_of g.S.Shelf c.put_file.new.shelf) ws
    refl (inl refl, (inl refl, tt)) c.read_input.ensures.kept
    (compile_makes c.args.object.now c.args.verilog.now (chosen_of c.args.choice) (state_of g.S.Shelf c.args.shelf.now) read.0 c.in_ok-built.built ws read.1 read.2 (ap (λ t. file_writes c.args.verilog.now t) c.deref.ensures.value)) c.in_ok-put_file.ensures.done
