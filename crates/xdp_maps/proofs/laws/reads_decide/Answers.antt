use Rattle.xdp_maps.proofs.ReadLaws.{reads_decide}
use Rattle.xdp_maps.proofs.laws.reads_decide.Goals as goal

pub returns : goal.returns
returns c = reads_decide
