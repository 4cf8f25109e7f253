use Rattle.xdp_object.proofs.WholePrograms.{reads_program}
use Rattle.xdp_object.proofs.laws.reads_program.Goals as goal

pub returns : goal.returns
returns c = reads_program
