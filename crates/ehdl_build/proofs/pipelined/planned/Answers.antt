use Rattle.std.proofs.Common.{◌≡◌}
use Rattle.xdp_state.specs.declared.refusal.BuildError.TheVariants.{NoMemory}
use Rattle.hazard_core.specs.cell_core.View.{program_of}
use Rattle.ehdl_build.proofs.Within.{plan_within, never_refused}
use Rattle.ehdl_build.proofs.pipelined.planned.Goals as goal

pub unreachable-requires : goal.unreachable-requires
unreachable-requires c =
    never_refused c.args.stages (program_of c.args.cells.now) c.in-Err-Refused.field-0 c.requires.stages c.requires.within (λ (same : c.in-Err-Refused.field-0 ≡ NoMemory). cc) c.in-Err-Refused.ensures.refused

pub returns-in-Ok : goal.returns-in-Ok
returns-in-Ok c = plan_within c.args.stages (program_of c.args.cells.now) c.in-Ok.plan c.requires.within c.in-Ok.ensures.plan
