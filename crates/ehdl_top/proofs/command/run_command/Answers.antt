use Rattle.std.proofs.Common.{sym, subst}
use Rattle.command_line.specs.Request.{request_of}
use Rattle.command_line.specs.declared.command.Command.{Command}
use Rattle.capture_run.specs.States.{state_of}
use Rattle.ehdl_top.specs.Steps.{EndsIn}
use Rattle.ehdl_top.proofs.DemoLemmas.{demo_ends}
use Rattle.ehdl_top.proofs.command.run_command.Goals as goal

pub returns-in-Demo-clause-ends : goal.returns-in-Demo-clause-ends
returns-in-Demo-clause-ends g c =
    let s = state_of g.S.Shelf c.args.shelf.now in
    subst (λ (asked : Command). EndsIn (request_of asked) s s c.run_demo.result) (sym c.in-Demo.is) (demo_ends c.in-Demo.seed c.in-Demo.packets s c.run_demo.result c.run_demo.ensures.lines c.run_demo.ensures.memory)
