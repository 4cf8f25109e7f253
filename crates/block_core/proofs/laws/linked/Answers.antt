use Rattle.block_core.proofs.LinkedLaws.{linked}
use Rattle.block_core.specs.contracts.laws.linked.{P-type}
use Rattle.block_core.proofs.laws.linked.Goals as goal

pub returns : goal.returns
returns g c = linked (P-type g.row.P)
