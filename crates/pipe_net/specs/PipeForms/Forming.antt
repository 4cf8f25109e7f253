-- The design of a pipeline is in order and well typed, and can be written down.
use Rattle.std.specs.Prelude.{◌≡◌, ℕ, true, List}
use Rattle.block_core.specs.net_core.Ports.{port_list}
use Rattle.block_core.specs.Blocks.{Whole}
use Rattle.block_core.specs.Formed.{IsFormed}
use Rattle.block_core.specs.BlockForms.WellFormed.{IsSpelled}
use Rattle.block_core.specs.net_core.ProductRules.Products.{no_product_chains}
use Rattle.pipe_net.specs.declared.parts.Part.{Part}
use Rattle.pipe_net.specs.Layout.{Layout}
use Rattle.pipe_net.specs.PipeForms.Parts.{outputs_of, design, AreParts}

-- Whatever blocks of these contracts are linked: each wire stands after those that it reads, all is well typed, and the grammar can spell all trees.
abbrev pub PipelinesAreFormed : Type 0
PipelinesAreFormed = (l : Layout) (d : Whole Part) → AreParts l d → IsFormed d port_list (outputs_of l) × IsSpelled d (outputs_of l)

-- No product stands in an operand of another, under any names.
abbrev pub HaveNoProductChains : Type 0
HaveNoProductChains = (l : Layout) (d : Whole Part) → AreParts l d → (names : List (List ℕ)) → no_product_chains (design l d names) ≡ true
