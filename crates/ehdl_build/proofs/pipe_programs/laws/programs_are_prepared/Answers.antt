use Rattle.ehdl_build.proofs.PipePrograms.Preparing.{programs_are_prepared}
use Rattle.ehdl_build.proofs.pipe_programs.laws.programs_are_prepared.Goals as goal

pub returns : goal.returns
returns c = programs_are_prepared c.pipelinable.ensures c.reads_first.ensures.cells c.reads_first.ensures.aligned c.accesses_lead.ensures.pointers
