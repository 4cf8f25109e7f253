-- Products among the wires of a part, as far as products make the operands.
use Rattle.std.specs.Prelude.{◌≡◌, ℕ, suc, Bool, true, false, All, List, [], ◌∷◌, ◌++◌, length}
use Rattle.std.specs.List.{list_all}
use Rattle.block_core.specs.declared.name.Name.{Name}
use Rattle.block_core.specs.declared.name.Name.TheVariants as name
use Rattle.block_core.specs.Blocks.{BlockWireTree}
use Rattle.block_core.specs.ProductBlocks.Apart.{AreMarked}
use Rattle.block_core.specs.ProductBlocks.Alone.{wire_flat}
use Rattle.cell_nets.specs.declared.operand.Operand.{Operand}
use Rattle.cell_nets.specs.declared.operand.Operand.TheVariants.{Known, Net, Part}

-- no product makes the net of an operand
abbrev pub IsClean : {N : Type 0} → (N → Bool) → Operand N → Type 0
IsClean made (Known n) = Unit {0}
IsClean made (Net n w) = made n ≡ false
IsClean made (Part n of from w) = made n ≡ false

-- the wires of a part from a number on are marked by these marks
abbrev pub Agrees : {P : Type 0} → P → ℕ → List Bool → (Name P → Bool) → Type 0
Agrees p at [] made = Unit {0}
Agrees p at (m ∷ ms) made = (made (name.Wire p at) ≡ m) × Agrees p (suc at) ms made

-- Wires become more. The further ones have marks under which they have their products apart, where no product makes the operands. Where none of
-- them is a product, none makes what they give, and they have their products apart under any marks.
pub record StayApart {P : Type 0} (product : Bool) (p : P) (old new : List (BlockWireTree (Name P))) (args outs : List (Operand (Name P))) : Type 0 where
  pub more : List (BlockWireTree (Name P))
  pub added : new ≡ old ++ more
  pub marks : List Bool
  pub count : length marks ≡ length more
  pub apart : (made : Name P → Bool) → All (IsClean made) args → Agrees p (length old) marks made → AreMarked made marks more
  pub clean : product ≡ false → (made : Name P → Bool) → All (IsClean made) args → Agrees p (length old) marks made → All (IsClean made) outs
  pub free : product ≡ false → (made : Name P → Bool) → list_all (wire_flat made) more ≡ true
