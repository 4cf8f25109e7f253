use Rattle.block_core.proofs.ProductBlocks.ApartLaws.{linked_has_no_product_chains}
use Rattle.block_core.specs.contracts.product_blocks.laws.linked_has_no_product_chains.{P-type}
use Rattle.block_core.proofs.product_blocks.laws.linked_has_no_product_chains.Goals as goal

pub returns : goal.returns
returns g c = linked_has_no_product_chains (P-type g.row.P)
