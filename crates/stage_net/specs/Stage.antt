-- The place of a row that reads maps.
use Rattle.std.specs.Prelude.{◌≡◌, ℕ, ◌<◌, true, false, Option, All, Contains, List, [], length, take, slice_index, IsTrue}
use Rattle.std.specs.List.{list_all}
use Rattle.std.proofs.Common.{◌⊎◌}
use Rattle.hazard_core.specs.xdp_machine.State.{PacketIn}
use Rattle.block_core.specs.net_core.Ports.{port_list}
use Rattle.block_core.specs.net_core.Value.{bit, Env}
use Rattle.block_core.specs.net_core.Clock.{Stored, done}
use Rattle.block_core.specs.design_rules.FormedSyntax.{statement_spelled}
use Rattle.block_core.specs.declared.name.Name.{Name}
use Rattle.block_core.specs.Blocks.{BlockTree, registers_of, memories_of, first_of, Whole, Among}
use Rattle.block_core.specs.Parts.{Solve, Goes, Within}
use Rattle.block_core.specs.Order.{IsBefore, InOrder}
use Rattle.block_core.specs.Formed.{names_scope, block_registers, IsTypedBlock, StatementReads, IsThere}
use Rattle.hazard_core.specs.cell_core.Cells.{CellView, cell_at}
use Rattle.hazard_core.specs.cell_core.Sites.{ProgramView}
use Rattle.hazard_core.specs.Tables.{TableState}
use Rattle.hazard_core.specs.StageValues.{StageValues, stage_value, pointer_in}
use Rattle.overlay_net.specs.cell_nets.declared.operand.Operand.{Operand}
use Rattle.overlay_net.specs.cell_nets.Computing.{is_outside}
use Rattle.overlay_net.specs.cell_nets.Operands.{AreFit, AreDeclared, IsNetOf}
use Rattle.overlay_net.specs.cell_nets.Wires.{is_spelled}
use Rattle.row_net.specs.Table.{Holds}
use Rattle.row_net.specs.Made.{AreValues}
use Rattle.row_net.specs.SitePlace.Pointing.{HoldsPointers, Takes}
use Rattle.row_net.specs.SitePlace.Inputs.{HasWidths}
use Rattle.row_net.specs.SitePlace.SitePlace.{site_widths, site_words}
use Rattle.hazard_core.specs.HeldRows.Made.{IsRowMade}
use Rattle.stage_net.specs.declared.row.StageNets.{StageNets}
use Rattle.stage_net.specs.Rows.{ShowsRow}

-- The cells can be made in this order: each is computed, and what it takes is had or made before it.
pub record CanMake (cells : List CellView) (Has : ℕ → Type 0) (made : List ℕ) : Type 0 where
  pub within : All (λ k. k < length cells) made
  pub computed : All (λ k. is_outside (cell_at cells k).op ≡ false) made
  pub inputs : (n : ℕ) → n < length made → All (λ i. Has i ⊎ Contains (take n made) i) (cell_at cells (slice_index made n)).ins

-- So can the pointers after them.
pub record CanPoint (cells : List CellView) (Has HasPointer : ℕ → Type 0) (made made_pointers : List ℕ) : Type 0 where
  pub within : All (λ k. k < length cells) made_pointers
  pub computed : All (λ k. is_outside (cell_at cells k).op ≡ false) made_pointers
  pub inputs :
      (n : ℕ) → n < length made_pointers
      → Takes (λ i. Has i ⊎ Contains made i) (λ i. HasPointer i ⊎ Contains (take n made_pointers) i) (cell_at cells (slice_index made_pointers n)).op (cell_at cells (slice_index made_pointers n)).ins

-- The block, over what comes from outside and tables of what stands for cells and for their pointers before it: what it has, that it is well typed, in
-- order and spelled where the nets from outside are, that no divisor is 0, and what a clock does. Where the net `advance` is 1, the registers take what a packet holds
-- after the row, if the tables' operands hold what it holds of earlier rows and the nets of sites and maps stand for what its reads take. Where that net is 0 what is
-- stored stays.
pub record IsStage {P : Type 0} (part : P) (p : ProgramView) (row : ℕ → ℕ) (r : ℕ) (nets : StageNets (Name P)) (made held made_pointers held_pointers : List ℕ) (outside : List (Operand (Name P))) (table pointers : List (Option (Operand (Name P)))) (advance : Name P) (b : BlockTree (Name P)) : Type 0 where
  pub registers : block_registers b ≡ site_widths p.cells nets.bits held held_pointers
  pub memories : b.memories ≡ []
  pub typed : (d : Whole P) → d.block part ≡ b → AreDeclared (names_scope d port_list) outside → IsTypedBlock d port_list b
  pub ordered : (d : Whole P) (before : List P) → ((n : Name P) → IsNetOf outside n → IsBefore d before part 0 n) → InOrder d before part 0 b.wires
  pub reads : (d : Whole P) → Among part d.parts → ((n : Name P) → IsNetOf outside n → IsThere d n) → StatementReads (IsThere d) b.statement
  pub within : Within (registers_of b) (memories_of b) b.statement
  pub wires_spelled : IsTrue (list_all is_spelled b.wires)
  pub spelled : IsTrue (statement_spelled b.statement)
  pub goes : (v : Env (Name P)) → AreFit v outside → Solve v part 0 b.wires → Goes v b.wires
  pub first : HasWidths (site_widths p.cells nets.bits held held_pointers) (first_of b)
  pub fits :
      (v : Env (Name P)) (s : Stored) → HasWidths (site_widths p.cells nets.bits held held_pointers) s → AreFit v outside → Solve v part 0 b.wires → HasWidths (site_widths p.cells nets.bits held held_pointers) (done v b.statement s)
  pub next :
      (v : Env (Name P)) (s : Stored) (t : TableState) (packet : PacketIn) (before h : StageValues) → v.net advance ≡ bit true → HasWidths (site_widths p.cells nets.bits held held_pointers) s → AreFit v outside → Solve v part 0 b.wires
      → ShowsRow v p row r nets t before h → IsRowMade p row r t packet h → AreValues packet p.cells made (stage_value h) → Holds v table (stage_value h) → HoldsPointers v pointers (pointer_in h)
      → (done v b.statement s).registers ≡ site_words p.cells nets.bits (stage_value h) (pointer_in h) held held_pointers
  pub stays : (v : Env (Name P)) (s : Stored) → v.net advance ≡ bit false → done v b.statement s ≡ s
