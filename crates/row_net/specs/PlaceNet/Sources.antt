-- Cells that come from outside with a packet, from the nets that show its frame.
use Rattle.std.specs.Prelude.{◌≡◌, ℕ, suc, ◌/◌, ◌^◌, ◌<◌, Bool, true, Option, None, All, Contains, List, [], ◌∷◌, length}
use Rattle.std.specs.List.{list_all}
use Rattle.std.proofs.Common.{get_or}
use Rattle.beat_core.specs.list_laws.Bytes.{IsBytes}
use Rattle.beat_core.specs.Ports.{Arrival}
use Rattle.overlay_net.specs.xdp_machine.State.{PacketIn}
use Rattle.net_core.specs.Value.{Env}
use Rattle.block_core.specs.ProductBlocks.Alone.{wire_flat}
use Rattle.block_core.specs.declared.name.Name.{Name}
use Rattle.block_core.specs.Blocks.{BlockWireTree}
use Rattle.block_core.specs.Parts.{Solve}
use Rattle.overlay_net.specs.cell_core.declared.operator.Operator.{Operator}
use Rattle.overlay_net.specs.cell_core.declared.operator.Operator.TheVariants.{Byte, Length, Ifindex, Time}
use Rattle.overlay_net.specs.cell_core.Cells.{CellView, cell_at, value}
use Rattle.cell_nets.specs.declared.operand.Operand.{Operand}
use Rattle.cell_nets.specs.declared.operand.Operand.TheVariants.{Net}
use Rattle.cell_nets.specs.Operands.{AreFit, IsAvailable}
use Rattle.cell_nets.specs.Wires.{behind, AreWires}
use Rattle.frame_net.specs.declared.held.Kept.{Kept}
use Rattle.frame_net.specs.declared.held.Kept.TheVariants as kept
use Rattle.frame_net.specs.Gather.{kept_width}
use Rattle.frame_net.specs.Sources.{length_name, kept_name, ShowsFrame}
use Rattle.row_net.specs.Table.{IsIn, IsTable, AreThere, Holds}

-- the packet of a frame that came
abbrev pub packet_in : Arrival → PacketIn
packet_in a = record { frame = a.frame; ifindex = a.ifindex; time = a.time }

-- what is kept of frames gives an operator its number
abbrev pub IsShown : List Kept → Operator → Type 0
IsShown list (Byte i) = (i < 2 ^ 11) × Contains list (kept.Word (i / 8))
IsShown list Length = Unit {0}
IsShown list Ifindex = Contains list kept.Ifindex
IsShown list Time = Contains list kept.Time
IsShown list op = ⊥

-- a cell of some bits that what is kept of frames gives
pub record IsSource (list : List Kept) (cells : List CellView) (k : ℕ) : Type 0 where
  pub within : k < length cells
  pub some : 0 < (cell_at cells k).width
  pub shown : IsShown list (cell_at cells k).op

-- the nets that show what is kept of a frame, from a number on
abbrev pub kept_operands : {P : Type 0} → P → ℕ → List Kept → List (Operand (Name P))
kept_operands p at [] = []
kept_operands p at (x ∷ xs) = Net (kept_name p at) (kept_width x) ∷ kept_operands p (suc at) xs

-- the nets that show a frame
abbrev pub source_operands : {P : Type 0} → P → List Kept → List (Operand (Name P))
source_operands p list = Net (length_name p) 14 ∷ kept_operands p 0 list

-- a frame is shown
pub record IsShownIn {P : Type 0} (sources : P) (list : List Kept) (v : Env (Name P)) (a : Arrival) : Type 0 where
  pub bytes : IsBytes a.frame
  pub shows : ShowsFrame sources list v a

-- Wires and a table become more. The table gets the cells that come with a packet, and nothing else changes in it. After the wires stands
-- all that is in the table, and where a frame is shown it has the values of these cells for its packet. No product is among the further wires.
pub record IsSourced {P : Type 0} (p sources : P) (list : List Kept) (cells : List CellView) (listed : List ℕ) (old new : List (BlockWireTree (Name P))) (before after : List (Option (Operand (Name P)))) : Type 0 where
  pub table : IsTable cells after
  pub given : All (IsIn after) listed
  pub grows : (k : ℕ) → IsIn before k → IsIn after k
  pub kept : (k : ℕ) → ¬ Contains listed k → get_or after k None ≡ get_or before k None
  pub earlier : (v : Env (Name P)) → Solve v p 0 new → Solve v p 0 old
  pub stays : (outside : List (Operand (Name P))) (a : Operand (Name P)) → IsAvailable (behind p outside old) a → IsAvailable (behind p outside new) a
  pub wires : (outside : List (Operand (Name P))) → AreWires p outside old → All (IsAvailable (behind p outside old)) (source_operands sources list) → AreWires p outside new
  pub there :
      (outside : List (Operand (Name P))) → AreWires p outside old → All (IsAvailable (behind p outside old)) (source_operands sources list) → AreThere (behind p outside old) before → AreThere (behind p outside new) after
  pub value :
      (outside : List (Operand (Name P))) (v : Env (Name P)) (a : Arrival) (val : ℕ → ℕ) → AreWires p outside old → All (IsAvailable (behind p outside old)) (source_operands sources list) → AreFit v outside → Solve v p 0 new
      → IsShownIn sources list v a → All (λ k. val k ≡ value (packet_in a) val (cell_at cells k)) listed → Holds v before val → Holds v after val
  pub free : ((made : Name P → Bool) → list_all (wire_flat made) old ≡ true) → (made : Name P → Bool) → list_all (wire_flat made) new ≡ true
