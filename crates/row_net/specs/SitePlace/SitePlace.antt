-- A place of a pipeline whose program operates on maps: packets may stay there, and pointers go with their cells.
use Rattle.std.specs.Prelude.{◌≡◌, ℕ, suc, ◌+◌, ◌<◌, true, false, Option, None, All, Contains, List, [], ◌∷◌, ◌++◌, length, map as map_list, IsTrue}
use Rattle.std.specs.List.{list_all}
use Rattle.std.proofs.Common.{get_or}
use Rattle.overlay_net.specs.xdp_machine.State.{PacketIn}
use Rattle.net_core.specs.declared.tree.Word.{Word}
use Rattle.net_core.specs.Ports.{port_list}
use Rattle.net_core.specs.Value.{word, bit, Env}
use Rattle.net_core.specs.Clock.{Stored, done}
use Rattle.block_core.specs.design_rules.FormedSyntax.{statement_spelled}
use Rattle.block_core.specs.declared.name.Name.{Name}
use Rattle.block_core.specs.declared.name.Name.TheVariants as name
use Rattle.block_core.specs.Blocks.{BlockTree, registers_of, memories_of, first_of, Whole, Among}
use Rattle.block_core.specs.Parts.{Solve, Goes, Within}
use Rattle.block_core.specs.Order.{IsBefore, InOrder}
use Rattle.block_core.specs.Formed.{names_scope, block_registers, IsTypedBlock, StatementReads, IsThere}
use Rattle.overlay_net.specs.cell_core.Cells.{CellView}
use Rattle.overlay_net.specs.hazard_core.declared.pointer.Pointer.{Pointer}
use Rattle.cell_nets.specs.declared.operand.Operand.{Operand}
use Rattle.cell_nets.specs.declared.operand.Operand.TheVariants.{Net}
use Rattle.cell_nets.specs.Operands.{AreFit, AreDeclared, IsAvailable, IsNetOf}
use Rattle.cell_nets.specs.Wires.{is_spelled}
use Rattle.overlay_net.specs.SiteOperands.Pointers.{pointer_number}
use Rattle.row_net.specs.Table.{IsIn, AreThere, Holds}
use Rattle.row_net.specs.Made.{AreValues}
use Rattle.row_net.specs.PlaceNet.Place.{widths_of, words_of}
use Rattle.row_net.specs.SitePlace.Pointing.{PointersAre, IsPointers, HoldsPointers}
use Rattle.row_net.specs.SitePlace.Inputs.{HasWidths}

-- the registers of a place: those of carried cells, then those of the pointers that are carried
abbrev pub site_widths : List CellView → ℕ → List ℕ → List ℕ → List ℕ
site_widths cells bits carried carried_pointers = widths_of cells carried ++ map_list (λ k. bits) carried_pointers

abbrev pub pointer_word : ℕ → (ℕ → Pointer) → ℕ → Word
pointer_word bits at k = word bits (pointer_number (at k))

-- their words, where cells have these numbers and these pointers
abbrev pub site_words : List CellView → ℕ → (ℕ → ℕ) → (ℕ → Pointer) → List ℕ → List ℕ → List Word
site_words cells bits val at carried carried_pointers = words_of cells val carried ++ map_list (pointer_word bits at) carried_pointers

-- The block, over what comes from outside and tables of what stands for cells and for their pointers before it: what it has, that it is well typed, in
-- order and spelled where the nets from outside are, that no divisor is 0, and what a clock does. Where the net `advance` is 1, the tables' operands
-- hold the numbers of cells and of pointers, the made cells have the numbers of their operators and these their pointers, each register
-- takes the number of its cell or of its pointer. Where that net is 0 what is stored stays.
pub record IsSitePlace {P : Type 0} (part : P) (cells : List CellView) (made carried made_pointers carried_pointers : List ℕ) (bits : ℕ) (outside : List (Operand (Name P))) (table pointers : List (Option (Operand (Name P)))) (advance : Name P) (b : BlockTree (Name P))
    : Type 0 where
  pub registers : block_registers b ≡ site_widths cells bits carried carried_pointers
  pub memories : b.memories ≡ []
  pub typed : (d : Whole P) → d.block part ≡ b → AreDeclared (names_scope d port_list) outside → IsTypedBlock d port_list b
  pub ordered : (d : Whole P) (before : List P) → ((n : Name P) → IsNetOf outside n → IsBefore d before part 0 n) → InOrder d before part 0 b.wires
  pub reads : (d : Whole P) → Among part d.parts → ((n : Name P) → IsNetOf outside n → IsThere d n) → StatementReads (IsThere d) b.statement
  pub within : Within (registers_of b) (memories_of b) b.statement
  pub wires_spelled : IsTrue (list_all is_spelled b.wires)
  pub spelled : IsTrue (statement_spelled b.statement)
  pub goes : (v : Env (Name P)) → AreFit v outside → Solve v part 0 b.wires → Goes v b.wires
  pub first : HasWidths (site_widths cells bits carried carried_pointers) (first_of b)
  pub fits :
      (v : Env (Name P)) (s : Stored) → HasWidths (site_widths cells bits carried carried_pointers) s → AreFit v outside → Solve v part 0 b.wires → HasWidths (site_widths cells bits carried carried_pointers) (done v b.statement s)
  pub next :
      (v : Env (Name P)) (s : Stored) (packet : PacketIn) (val : ℕ → ℕ) (at : ℕ → Pointer) → v.net advance ≡ bit true → HasWidths (site_widths cells bits carried carried_pointers) s → AreFit v outside → Solve v part 0 b.wires
      → AreValues packet cells made val → PointersAre cells made_pointers val at → Holds v table val → HoldsPointers v pointers at
      → (done v b.statement s).registers ≡ site_words cells bits val at carried carried_pointers
  pub stays : (v : Env (Name P)) (s : Stored) → v.net advance ≡ bit false → done v b.statement s ≡ s

-- registers from a number on, one for each of these, as operands of so many bits
abbrev pub pointer_registers : {P : Type 0} → P → ℕ → ℕ → List ℕ → List (Operand (Name P))
pointer_registers p bits at [] = []
pointer_registers p bits at (k ∷ ks) = Net (name.Register p at) bits ∷ pointer_registers p bits (suc at) ks

-- The registers of a place from a number on stand in a table for the pointers that it carries, and nothing else changes in it.
pub record AreTaken {P : Type 0} (part : P) (cells : List CellView) (bits first : ℕ) (carried : List ℕ) (before after : List (Option (Operand (Name P)))) : Type 0 where
  pub pointers : IsPointers cells bits after
  pub taken : All (IsIn after) carried
  pub grows : (k : ℕ) → IsIn before k → IsIn after k
  pub kept : (k : ℕ) → ¬ Contains carried k → get_or after k None ≡ get_or before k None
  pub there : (ins : List (Operand (Name P))) → AreThere ins before → All (IsAvailable ins) (pointer_registers part bits first carried) → AreThere ins after
  pub value :
      (v : Env (Name P)) (at : ℕ → Pointer) → ((i : ℕ) → i < length carried → (v.net (name.Register part (first + i))).value ≡ pointer_number (at (get_or carried i 0))) → HoldsPointers v before at → HoldsPointers v after at
