-- A register for each cell that the next place or the exit takes.
use Rattle.std.specs.Prelude.{◌≡◌, ℕ, suc, ◌^◌, ◌<◌, Option, None, All, Contains, List, [], ◌∷◌, length, map as map_list}
use Rattle.std.proofs.Common.{get_or}
use Rattle.net_core.specs.declared.tree.Word.{Word}
use Rattle.net_core.specs.Value.{word, Env}
use Rattle.block_core.specs.declared.name.Name.{Name}
use Rattle.block_core.specs.declared.name.Name.TheVariants as name
use Rattle.overlay_net.specs.cell_core.Cells.{CellView, cell_at}
use Rattle.cell_nets.specs.declared.operand.Operand.{Operand}
use Rattle.cell_nets.specs.declared.operand.Operand.TheVariants.{Net}
use Rattle.cell_nets.specs.Operands.{IsAvailable}
use Rattle.row_net.specs.Table.{IsIn, IsTable, AreThere, Holds}

abbrev pub width_at : List CellView → ℕ → ℕ
width_at cells k = (cell_at cells k).width

abbrev pub widths_of : List CellView → List ℕ → List ℕ
widths_of cells carried = map_list (width_at cells) carried

-- the word of a cell that has a number
abbrev pub word_in : List CellView → (ℕ → ℕ) → ℕ → Word
word_in cells val k = word (width_at cells k) (val k)

-- the words of carried cells, where cells have these numbers
abbrev pub words_of : List CellView → (ℕ → ℕ) → List ℕ → List Word
words_of cells val carried = map_list (word_in cells val) carried

-- the registers of carried cells, from a number on, as operands
abbrev pub registers_from : {P : Type 0} → P → List CellView → ℕ → List ℕ → List (Operand (Name P))
registers_from p cells at [] = []
registers_from p cells at (k ∷ ks) = Net (name.Register p at) (width_at cells k) ∷ registers_from p cells (suc at) ks

-- a word of a width
pub record HasSize (bits : ℕ) (w : Word) : Type 0 where
  pub width : w.width ≡ bits
  pub small : w.value < 2 ^ bits

-- The registers of a place stand in a table for the cells that it carries, and nothing else changes in it.
pub record IsTaken {P : Type 0} (part : P) (cells : List CellView) (carried : List ℕ) (before after : List (Option (Operand (Name P)))) : Type 0 where
  pub table : IsTable cells after
  pub taken : All (IsIn after) carried
  pub grows : (k : ℕ) → IsIn before k → IsIn after k
  pub kept : (k : ℕ) → ¬ Contains carried k → get_or after k None ≡ get_or before k None
  pub there : (ins : List (Operand (Name P))) → AreThere ins before → All (IsAvailable ins) (registers_from part cells 0 carried) → AreThere ins after
  pub value : (v : Env (Name P)) (val : ℕ → ℕ) → ((i : ℕ) → i < length carried → (v.net (name.Register part i)).value ≡ val (get_or carried i 0)) → Holds v before val → Holds v after val
