use Rattle.commit_net.proofs.MapBlock.ArrayLemmas.{array_block}
use Rattle.commit_net.specs.contracts.map_block.laws.arrays.{P-type}
use Rattle.commit_net.proofs.map_block.laws.arrays.Goals as goal

pub returns : goal.returns
returns g c = λ f ps k ns bs values kind form_fits find fetch ask block. array_block {P = P-type g.row.P} f ps k ns bs values kind form_fits find fetch ask block c.array_stores.ensures
