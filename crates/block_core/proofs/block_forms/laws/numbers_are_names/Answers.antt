use Rattle.block_core.proofs.BlockForms.NamesLaws.{numbers_are_names}
use Rattle.block_core.specs.contracts.block_forms.laws.numbers_are_names.{P-type}
use Rattle.block_core.proofs.block_forms.laws.numbers_are_names.Goals as goal

pub returns : goal.returns
returns g c = numbers_are_names (P-type g.row.P)
