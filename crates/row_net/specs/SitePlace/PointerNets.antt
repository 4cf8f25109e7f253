-- The nets of pointers.
use Rattle.std.specs.Prelude.{◌≡◌, ℕ, ◌<◌, Bool, Option, List, length, slice_index, All}
use Rattle.std.proofs.Common.{get_or}
use Rattle.net_core.specs.Value.{Env}
use Rattle.block_core.specs.declared.name.Name.{Name}
use Rattle.block_core.specs.Blocks.{BlockWireTree}
use Rattle.block_core.specs.Parts.{Solve}
use Rattle.overlay_net.specs.cell_core.declared.operator.Operator.{Operator}
use Rattle.overlay_net.specs.cell_core.Cells.{CellView}
use Rattle.overlay_net.specs.hazard_core.declared.pointer.Pointer.{Pointer}
use Rattle.cell_nets.specs.declared.operand.Operand.{Operand}
use Rattle.cell_nets.specs.Operands.{number_in, IsOperand, AreFit, IsAvailable}
use Rattle.cell_nets.specs.Wires.{behind, AreWires, HasBits}
use Rattle.row_net.specs.Table.{Stands, IsIn, AreThere, Holds}
use Rattle.row_net.specs.Apart.{KeepApart}
use Rattle.overlay_net.specs.SiteOperands.Pointers.{pointer_number}
use Rattle.row_net.specs.SitePlace.Pointing.{made_pointer, PointersAre, IsPointers, HoldsPointers, is_edge, HoldsOf}

-- operands stand for the inputs of a join of pointers: for edges cells, for the others their pointers
pub record AreChoices {N : Type 0} (table pointers : List (Option (Operand N))) (ins : List ℕ) (args : List (Operand N)) : Type 0 where
  pub count : length args ≡ length ins
  pub each : (n : ℕ) (d : Operand N) → n < length ins → HoldsOf (λ i. Stands table i (get_or args n d)) (λ i. Stands pointers i (get_or args n d)) (is_edge n) (slice_index ins n)

-- the two tables are there after these wires
pub record BothThere {P : Type 0} (p : P) (outside : List (Operand (Name P))) (ws : List (BlockWireTree (Name P))) (table those : List (Option (Operand (Name P)))) : Type 0 where
  pub wires : AreWires p outside ws
  pub cells : AreThere (behind p outside ws) table
  pub pointers : AreThere (behind p outside ws) those

-- Wires become more, whatever comes from outside, and products that were apart stay so.
pub record AddWires {P : Type 0} (p : P) (old new : List (BlockWireTree (Name P))) : Type 0 where
  pub before : (v : Env (Name P)) → Solve v p 0 new → Solve v p 0 old
  pub stays : (outside : List (Operand (Name P))) (a : Operand (Name P)) → IsAvailable (behind p outside old) a → IsAvailable (behind p outside new) a
  pub apart : (clean : ℕ → Bool) (marks : List Bool) (table : List (Option (Operand (Name P)))) → KeepApart p clean marks old table → (next : List Bool) × KeepApart p clean next new table

-- After further wires an operand of so many bits has the number of the pointer that goes with a cell.
pub record GivesPointer {P : Type 0} (p : P) (bits : ℕ) (op : Operator) (ins : List ℕ) (table pointers : List (Option (Operand (Name P)))) (old new : List (BlockWireTree (Name P))) (out : Operand (Name P)) : Type 0 where
  pub adds : AddWires p old new
  pub operand : IsOperand out
  pub wide : HasBits bits out
  pub wires : (outside : List (Operand (Name P))) → BothThere p outside old table pointers → AreWires p outside new
  pub there : (outside : List (Operand (Name P))) → BothThere p outside old table pointers → IsAvailable (behind p outside new) out
  pub value :
      (outside : List (Operand (Name P))) (v : Env (Name P)) (val : ℕ → ℕ) (at : ℕ → Pointer) → BothThere p outside old table pointers → AreFit v outside → Solve v p 0 new → Holds v table val → HoldsPointers v pointers at
      → number_in v out ≡ pointer_number (made_pointer val at ins op)

-- Wires and a table of pointers become more: the table gets the pointers of these cells, of so many bits, and nothing that was there goes. Whatever comes from outside, after
-- the wires stands all that is in the table, and it has the numbers of pointers where that was so before and these cells have the pointers that go with them.
pub record IsPointerRow {P : Type 0} (p : P) (cells : List CellView) (bits : ℕ) (made : List ℕ) (table : List (Option (Operand (Name P)))) (old new : List (BlockWireTree (Name P))) (before after : List (Option (Operand (Name P)))) : Type 0 where
  pub pointers : IsPointers cells bits after
  pub all_in : All (IsIn after) made
  pub grows : (k : ℕ) → IsIn before k → IsIn after k
  pub adds : AddWires p old new
  pub there : (outside : List (Operand (Name P))) → BothThere p outside old table before → BothThere p outside new table after
  pub value :
      (outside : List (Operand (Name P))) (v : Env (Name P)) (val : ℕ → ℕ) (at : ℕ → Pointer) → BothThere p outside old table before → AreFit v outside → Solve v p 0 new → PointersAre cells made val at → Holds v table val
      → HoldsPointers v before at → HoldsPointers v after at
