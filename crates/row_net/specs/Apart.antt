-- Products in a row stay apart.
use Rattle.std.specs.Prelude.{◌≡◌, ℕ, Bool, true, false, ◌||◌, Option, List, length, All}
use Rattle.block_core.specs.declared.name.Name.{Name}
use Rattle.block_core.specs.Blocks.{BlockWireTree}
use Rattle.block_core.specs.ProductBlocks.Apart.{is_marked, AreMarked}
use Rattle.overlay_net.specs.cell_core.Cells.{CellView, cell_at}
use Rattle.cell_nets.specs.declared.operand.Operand.{Operand}
use Rattle.cell_nets.specs.Computing.{makes_product, taken}
use Rattle.cell_nets.specs.Apart.{IsClean, Agrees}
use Rattle.row_net.specs.Table.{Stands}

-- Of these cells each that is a product takes clean ones alone, and a clean one is none and takes such alone.
pub record TakeClean (clean : ℕ → Bool) (cells : List CellView) (made : List ℕ) : Type 0 where
  pub inputs : All (λ k. (clean k || makes_product (cell_at cells k).op) ≡ true → All (λ i. clean i ≡ true) (taken (cell_at cells k).op (cell_at cells k).ins)) made
  pub others : All (λ k. clean k ≡ true → makes_product (cell_at cells k).op ≡ false) made

-- Under these marks the wires of a part have their products apart, and no product makes what stands for a clean cell, whichever wires of other
-- parts are marked.
pub record KeepApart {P : Type 0} (p : P) (clean : ℕ → Bool) (marks : List Bool) (ws : List (BlockWireTree (Name P))) (table : List (Option (Operand (Name P)))) : Type 0 where
  pub count : length marks ≡ length ws
  pub wires : (all : P → List Bool) → Agrees p 0 marks (is_marked all) → AreMarked (is_marked all) marks ws
  pub stands : (all : P → List Bool) → Agrees p 0 marks (is_marked all) → (k : ℕ) (a : Operand (Name P)) → clean k ≡ true → Stands table k a → IsClean (is_marked all) a
