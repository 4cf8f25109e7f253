use Rattle.xdp_object.proofs.WholePrograms.{reads_layout}
use Rattle.xdp_object.proofs.laws.reads_layout.Goals as goal

pub returns : goal.returns
returns c = reads_layout
