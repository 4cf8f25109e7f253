use Rattle.ehdl_build.proofs.ProgramPlan.Suiting.{pipelinable}
use Rattle.ehdl_build.proofs.program_plan.laws.pipelinable.Goals as goal

pub returns : goal.returns
returns c = pipelinable c.have_values.ensures c.rows_rise.ensures c.rows_stand_behind.ensures
