use Rattle.commit_net.proofs.MapBlock.SeenLemmas.{seen}
use Rattle.commit_net.specs.contracts.map_block.laws.seen.{P-type}
use Rattle.commit_net.proofs.map_block.laws.seen.Goals as goal

pub returns : goal.returns
returns g c = seen {P = P-type g.row.P}
