-- The nets of a place.
use Rattle.std.specs.Prelude.{ℕ, suc, Option, Some, None, List, [], ◌∷◌}
use Rattle.std.proofs.Common.{get_or}
use Rattle.net_core.specs.Nets.{Tree, TConst, TRead, StatementTree, SBlock, SSet, SEnd}
use Rattle.net_core.specs.Chains.{statements_before}
use Rattle.net_core.specs.Value.{word}
use Rattle.overlay_net.specs.cell_core.Cells.{CellView}
use Rattle.cell_nets.specs.declared.operand.Operand.{Operand}
use Rattle.cell_nets.specs.declared.operand.Operand.TheVariants.{Known, Net, Part}
use Rattle.cell_nets.specs.Parts.{part_tree}
use Rattle.row_net.specs.PlaceNet.Place.{width_at}

-- what stands for a cell of so many bits, or 0 where nothing does
abbrev pub tree_for : {N : Type 0} → Option (Operand N) → ℕ → Tree N
tree_for None width = TConst (word width 0)
tree_for (Some (Known n)) width = TConst (word width n)
tree_for (Some (Net n w)) width = TRead n
tree_for (Some (Part n of from w)) width = part_tree n of from w

abbrev pub tree_in : {N : Type 0} → List CellView → List (Option (Operand N)) → ℕ → Tree N
tree_in cells table k = tree_for (get_or table k None) (width_at cells k)

-- the statements that set registers, from one on
abbrev pub sets_from : {N : Type 0} → ℕ → List (Tree N) → List (StatementTree N)
sets_from at [] = []
sets_from at (t ∷ ts) = SSet at t ∷ sets_from (suc at) ts

abbrev pub set_statement : {N : Type 0} → List (Tree N) → StatementTree N
set_statement values = SBlock (statements_before (sets_from 0 values) SEnd)
