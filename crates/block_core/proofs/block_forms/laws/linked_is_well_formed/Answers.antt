use Rattle.block_core.proofs.BlockForms.WellFormedLaws.{linked_is_well_formed}
use Rattle.block_core.specs.contracts.block_forms.laws.linked_is_well_formed.{P-type}
use Rattle.block_core.proofs.block_forms.laws.linked_is_well_formed.Goals as goal

pub returns : goal.returns
returns g c = linked_is_well_formed (P-type g.row.P)
