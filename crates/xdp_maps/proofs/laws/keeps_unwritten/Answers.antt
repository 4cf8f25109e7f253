use Rattle.xdp_maps.proofs.WriteLaws.{keeps_unwritten}
use Rattle.xdp_maps.proofs.laws.keeps_unwritten.Goals as goal

pub returns : goal.returns
returns c = keeps_unwritten
