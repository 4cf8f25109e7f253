-- Statements by which registers take operands.
use Rattle.std.specs.Prelude.{◌≡◌, ℕ, suc, List, [], ◌∷◌}
use Rattle.net_core.specs.Nets.{Tree, StatementTree, SSet}
use Rattle.cell_core.specs.Cells.{bits_from}
use Rattle.cell_nets.specs.declared.operand.Operand.{Operand}
use Rattle.cell_nets.specs.Operands.{number_in, IsAvailable}
use Rattle.cell_nets.specs.Parts.{IsSlice}
use Rattle.cell_nets.specs.declared.operand_blocks.registers.Taken.{Taken}

-- a register takes the low bits of an operand
pub record IsSet {N : Type 0} (at : ℕ) (t : Taken N) (s : StatementTree N) : Type 0 where
  pub tree : Tree N
  pub is : s ≡ SSet at tree
  pub part : (ins : List (Operand N)) → IsAvailable ins t.operand → IsSlice ins 2 t.width (λ v. bits_from (number_in v t.operand) 0 t.width) tree

-- so do registers from a number on
abbrev pub AreSets : {N : Type 0} → ℕ → List (Taken N) → List (StatementTree N) → Type 0
AreSets at [] [] = Unit {0}
AreSets at [] (s ∷ ss) = ⊥
AreSets at (t ∷ ts) [] = ⊥
AreSets at (t ∷ ts) (s ∷ ss) = IsSet at t s × AreSets (suc at) ts ss
