use Rattle.commit_net.proofs.MapBlock.HashLemmas.{hash_block}
use Rattle.commit_net.specs.contracts.map_block.laws.hashes.{P-type}
use Rattle.commit_net.proofs.map_block.laws.hashes.Goals as goal

pub returns : goal.returns
returns g c = λ f ps k ns bs inserts deletes keys values kind form_fits find fetch ask block. hash_block {P = P-type g.row.P} f ps k ns bs inserts deletes keys values kind form_fits find fetch ask block c.hash_stores.ensures
