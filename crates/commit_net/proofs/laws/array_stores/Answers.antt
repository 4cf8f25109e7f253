use Rattle.commit_net.proofs.StoringLemmas.{array_stores}
use Rattle.commit_net.specs.contracts.laws.array_stores.{P-type}
use Rattle.commit_net.proofs.laws.array_stores.Goals as goal

pub returns : goal.returns
returns g c = array_stores {P = P-type g.row.P}
