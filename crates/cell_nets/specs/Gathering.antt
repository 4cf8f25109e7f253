-- Fewer operands in place of many.
use Rattle.std.specs.Prelude.{◌≡◌, false, All, List}
use Rattle.std.specs.List.{list_any}
use Rattle.net_core.specs.Value.{Env}
use Rattle.block_core.specs.declared.name.Name.{Name}
use Rattle.block_core.specs.Blocks.{BlockWireTree}
use Rattle.block_core.specs.Parts.{Solve}
use Rattle.cell_core.specs.Cells.{on}
use Rattle.cell_nets.specs.declared.operand.Operand.{Operand}
use Rattle.cell_nets.specs.Operands.{number_in, IsOperand, AreFit, IsAvailable}
use Rattle.cell_nets.specs.Apart.{StayApart}
use Rattle.cell_nets.specs.Wires.{behind, AreWires}

-- after more wires, none of them a product, operands of which one is not 0 exactly where that is so of others
pub record IsGathered {P : Type 0} (p : P) (old new : List (BlockWireTree (Name P))) (args left : List (Operand (Name P))) : Type 0 where
  pub operands : All IsOperand left
  pub before : (v : Env (Name P)) → Solve v p 0 new → Solve v p 0 old
  pub stays : (outside : List (Operand (Name P))) (a : Operand (Name P)) → IsAvailable (behind p outside old) a → IsAvailable (behind p outside new) a
  pub wires : (outside : List (Operand (Name P))) → AreWires p outside old → All (IsAvailable (behind p outside old)) args → AreWires p outside new
  pub there : (outside : List (Operand (Name P))) → AreWires p outside old → All (IsAvailable (behind p outside old)) args → All (IsAvailable (behind p outside new)) left
  pub apart : StayApart false p old new args left
  pub value :
      (outside : List (Operand (Name P))) (v : Env (Name P)) → AreWires p outside old → All (IsAvailable (behind p outside old)) args → AreFit v outside → Solve v p 0 new
      → list_any (λ a. on (number_in v a)) left ≡ list_any (λ a. on (number_in v a)) args
