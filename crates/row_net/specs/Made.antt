-- Wires for the cells of a row, in a table where they are read.
use Rattle.std.specs.Prelude.{◌≡◌, ◌≢◌, ℕ, ◌<◌, Bool, true, false, Option, None, List, length, take, slice_index, All, Contains}
use Rattle.std.proofs.Common.{get_or, ◌⊎◌}
use Rattle.net_core.specs.Value.{Env}
use Rattle.block_core.specs.declared.name.Name.{Name}
use Rattle.block_core.specs.Blocks.{BlockWireTree}
use Rattle.block_core.specs.Parts.{Solve}
use Rattle.overlay_net.specs.xdp_machine.State.{PacketIn}
use Rattle.overlay_net.specs.cell_core.Cells.{CellView, cell_at, value}
use Rattle.overlay_net.specs.cell_core.Formed.{divides}
use Rattle.cell_nets.specs.declared.operand.Operand.{Operand}
use Rattle.cell_nets.specs.Computing.{is_outside}
use Rattle.cell_nets.specs.Operands.{AreFit, IsAvailable}
use Rattle.cell_nets.specs.Wires.{behind, AreWires}
use Rattle.row_net.specs.Table.{IsIn, IsTable, AreThere, Holds}
use Rattle.row_net.specs.Apart.{TakeClean, KeepApart}

-- The cells can be made in this order: each is computed, and what it takes is in the table or made before it.
pub record IsReady {N : Type 0} (cells : List CellView) (table : List (Option (Operand N))) (made : List ℕ) : Type 0 where
  pub within : All (λ k. k < length cells) made
  pub computed : All (λ k. is_outside (cell_at cells k).op ≡ false) made
  pub inputs : (n : ℕ) → n < length made → All (λ i. IsIn table i ⊎ Contains (take n made) i) (cell_at cells (slice_index made n)).ins

-- The numbers of these cells are their values for a packet, and none of them divides by 0.
pub record AreValues (packet : PacketIn) (cells : List CellView) (made : List ℕ) (val : ℕ → ℕ) : Type 0 where
  pub each : All (λ k. val k ≡ value packet val (cell_at cells k)) made
  pub divisors : All (λ k. divides (cell_at cells k).op ≡ true → val (slice_index (cell_at cells k).ins 1) ≢ 0) made

-- Wires and a table become more. The table gets the cells that are made, and nothing else changes in it. Whatever comes from outside, after
-- the wires stands all that is in the table, and it has the values of the cells where that was so before and the made cells have values. Products
-- stay apart, where they did and take clean cells alone.
pub record IsRow {P : Type 0} (p : P) (cells : List CellView) (made : List ℕ) (old new : List (BlockWireTree (Name P))) (before after : List (Option (Operand (Name P)))) : Type 0 where
  pub table : IsTable cells after
  pub all_in : All (IsIn after) made
  pub grows : (k : ℕ) → IsIn before k → IsIn after k
  pub kept : (k : ℕ) → ¬ Contains made k → get_or after k None ≡ get_or before k None
  pub earlier : (v : Env (Name P)) → Solve v p 0 new → Solve v p 0 old
  pub stays : (outside : List (Operand (Name P))) (a : Operand (Name P)) → IsAvailable (behind p outside old) a → IsAvailable (behind p outside new) a
  pub wires : (outside : List (Operand (Name P))) → AreWires p outside old → AreThere (behind p outside old) before → AreWires p outside new
  pub there : (outside : List (Operand (Name P))) → AreWires p outside old → AreThere (behind p outside old) before → AreThere (behind p outside new) after
  pub value :
      (outside : List (Operand (Name P))) (v : Env (Name P)) (packet : PacketIn) (val : ℕ → ℕ) → AreWires p outside old → AreThere (behind p outside old) before → AreFit v outside → Solve v p 0 new → AreValues packet cells made val
      → Holds v before val → Holds v after val
  pub apart : (clean : ℕ → Bool) (marks : List Bool) → TakeClean clean cells made → KeepApart p clean marks old before → (next : List Bool) × KeepApart p clean next new after
