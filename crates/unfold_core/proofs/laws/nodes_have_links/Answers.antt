use Rattle.unfold_core.proofs.Linked.{nodes_have_links}
use Rattle.unfold_core.proofs.laws.nodes_have_links.Goals as goal

pub returns : goal.returns
returns c = nodes_have_links
