use Rattle.block_core.proofs.TypedLaws.{linked_is_typed}
use Rattle.block_core.specs.contracts.laws.linked_is_typed.{P-type}
use Rattle.block_core.proofs.laws.linked_is_typed.Goals as goal

pub returns : goal.returns
returns g c = linked_is_typed (P-type g.row.P)
