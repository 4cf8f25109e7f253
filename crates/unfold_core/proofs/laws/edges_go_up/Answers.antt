use Rattle.unfold_core.proofs.NodeLaws.{edges_go_up}
use Rattle.unfold_core.proofs.laws.edges_go_up.Goals as goal

pub returns : goal.returns
returns c = edges_go_up
