use Rattle.commit_net.proofs.StoringLemmas.{hash_stores}
use Rattle.commit_net.specs.contracts.laws.hash_stores.{P-type}
use Rattle.commit_net.proofs.laws.hash_stores.Goals as goal

pub returns : goal.returns
returns g c = hash_stores {P = P-type g.row.P}
