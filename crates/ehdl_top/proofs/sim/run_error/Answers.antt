use Rattle.std.proofs.Common.{subst}
use Rattle.capture_run.specs.declared.error.RunError.{RunError}
use Rattle.ehdl_top.specs.Steps.{StopsAs}
use Rattle.ehdl_top.proofs.sim.run_error.Goals as goal

pub name-requires : goal.name-requires
name-requires g c = let P : RunError → Type 0 = StopsAs (g.C.Clocked.netlist c.args.sim.now) in subst P c.in-X.is c.requires
