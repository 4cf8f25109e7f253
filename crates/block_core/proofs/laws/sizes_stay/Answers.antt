use Rattle.block_core.proofs.LinkedLaws.{sizes_stay}
use Rattle.block_core.specs.contracts.laws.sizes_stay.{N-type}
use Rattle.block_core.proofs.laws.sizes_stay.Goals as goal

pub returns : goal.returns
returns g c = sizes_stay (N-type g.row.N)
