use Rattle.block_core.proofs.LinkedLaws.{starts_as_parts}
use Rattle.block_core.specs.contracts.laws.starts_as_parts.{P-type}
use Rattle.block_core.proofs.laws.starts_as_parts.Goals as goal

pub returns : goal.returns
returns g c = starts_as_parts (P-type g.row.P)
