-- Wires of a part that become more, and the operands that stand after them.
use Rattle.std.specs.Prelude.{false, All, List}
use Rattle.net_core.specs.Value.{Env}
use Rattle.block_core.specs.declared.name.Name.{Name}
use Rattle.block_core.specs.Blocks.{BlockWireTree}
use Rattle.block_core.specs.Parts.{Solve}
use Rattle.cell_nets.specs.declared.operand.Operand.{Operand}
use Rattle.cell_nets.specs.Apart.{StayApart}
use Rattle.cell_nets.specs.Operands.{AreFit, IsAvailable}
use Rattle.cell_nets.specs.Wires.{behind, AreWires}

-- After more wires stand operands of which something is known, where a condition holds.
pub record Stands {P : Type 0} (p : P) (old new : List (BlockWireTree (Name P))) (args : List (Operand (Name P))) (needs : Env (Name P) → Type 0) (outs : List (Operand (Name P))) (knows : Env (Name P) → Type 0) : Type 0 where
  pub before : (v : Env (Name P)) → Solve v p 0 new → Solve v p 0 old
  pub stays : (outside : List (Operand (Name P))) (a : Operand (Name P)) → IsAvailable (behind p outside old) a → IsAvailable (behind p outside new) a
  pub wires : (outside : List (Operand (Name P))) → AreWires p outside old → All (IsAvailable (behind p outside old)) args → AreWires p outside new
  pub there : (outside : List (Operand (Name P))) → AreWires p outside old → All (IsAvailable (behind p outside old)) args → All (IsAvailable (behind p outside new)) outs
  pub known : (outside : List (Operand (Name P))) (v : Env (Name P)) → AreWires p outside old → All (IsAvailable (behind p outside old)) args → AreFit v outside → Solve v p 0 new → needs v → knows v
  pub apart : StayApart false p old new args outs
