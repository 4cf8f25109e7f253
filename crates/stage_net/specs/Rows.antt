-- What the sites that are read in a row give.
use Rattle.std.specs.Prelude.{◌≡◌, ℕ, ◌<◌, ◌≤◌, ◌∷◌, ◌/◌, not, Bool, true, false, Option, Some, All, List, [], length}
use Rattle.std.proofs.Common.{get_or, ◌⊎◌}
use Rattle.block_core.specs.net_core.Value.{Env}
use Rattle.hazard_core.specs.xdp_machine.State.{PacketIn}
use Rattle.block_core.specs.declared.name.Name.{Name}
use Rattle.block_core.specs.Blocks.{BlockWireTree}
use Rattle.block_core.specs.Parts.{Solve}
use Rattle.hazard_core.specs.cell_core.declared.operator.Operator.TheVariants.{Found}
use Rattle.hazard_core.specs.cell_core.Acts.{finds_key, reads}
use Rattle.hazard_core.specs.cell_core.Cells.{bit, bits_from, cell_at, is_read, site_in}
use Rattle.hazard_core.specs.cell_core.Sites.{ProgramView, site_at}
use Rattle.hazard_core.specs.Tables.{TableState}
use Rattle.hazard_core.specs.Tabled.{AreTables}
use Rattle.hazard_core.specs.StageValues.{StageValues, stage_value, pointer_in, access_pointer, pending, is_null}
use Rattle.hazard_core.specs.Keeping.{AreAlike}
use Rattle.hazard_core.specs.Overlay.{found_pointer, answer_over}
use Rattle.overlay_net.specs.cell_nets.declared.operand.Operand.{Operand}
use Rattle.overlay_net.specs.cell_nets.Operands.{number_in, IsOperand, AreFit, IsAvailable}
use Rattle.overlay_net.specs.cell_nets.Wires.{behind, AreWires, HasBits}
use Rattle.overlay_net.specs.declared.site_operands.SiteNets.{SiteNets}
use Rattle.overlay_net.specs.SiteOperands.Pointers.{pointer_number}
use Rattle.overlay_net.specs.SiteOperands.Sites.{operands_of, ShowsSite}
use Rattle.row_net.specs.Table.{IsIn, IsTable, Holds}
use Rattle.row_net.specs.Apart.{KeepApart}
use Rattle.row_net.specs.SitePlace.Pointing.{IsPointers, HoldsPointers}
use Rattle.row_net.specs.SitePlace.PointerNets.{AddWires, BothThere}
use Rattle.overlay_net.specs.ValueNet.Pendings.{HasValue}
use Rattle.overlay_net.specs.ValueNet.Words.{answers_number, access_start}
use Rattle.read_net.specs.declared.sites.MapNets.{MapNets}
use Rattle.read_net.specs.declared.sites.ReadNets.{ReadNets}
use Rattle.read_net.specs.Reads.{AreCells}
use Rattle.read_net.specs.Sites.{ShowsTable}
use Rattle.overlay_net.specs.Reading.{ShowsSlot}
use Rattle.read_net.specs.Accesses.{ShowsWord}
use Rattle.hazard_core.specs.HeldRows.Made.{IsRowMade}
use Rattle.stage_net.specs.declared.row.StageNets.{StageNets}
use Rattle.stage_net.specs.Nets.{decls_of, NetsAreThere}

-- ---- the cells of a row that read maps
abbrev pub IsReadHere : ProgramView → (ℕ → ℕ) → ℕ → ℕ → Type 0
IsReadHere p row r c = (c < length p.cells) × (row c ≡ r) × (is_read (cell_at p.cells c).op ≡ true)

abbrev pub IsFoundHere : ProgramView → (ℕ → ℕ) → ℕ → ℕ → Type 0
IsFoundHere p row r c = (j : ℕ) × (c < length p.cells) × (row c ≡ r) × ((cell_at p.cells c).op ≡ Found j)

-- a cell that a table has or that the row reads, and so of pointers
abbrev pub IsHad : {N : Type 0} → ProgramView → (ℕ → ℕ) → ℕ → List (Option (Operand N)) → ℕ → Type 0
IsHad p row r table c = IsIn table c ⊎ IsReadHere p row r c

abbrev pub IsPointerHad : {N : Type 0} → ProgramView → (ℕ → ℕ) → ℕ → List (Option (Operand N)) → ℕ → Type 0
IsPointerHad p row r pointers c = IsIn pointers c ⊎ IsFoundHere p row r c

-- a site that the row reads and that looks for a key
abbrev pub IsSought : ProgramView → (ℕ → ℕ) → ℕ → ℕ → Type 0
IsSought p row r j = (c : ℕ) × (c < length p.cells) × (row c ≡ r) × (site_in (cell_at p.cells c).op ≡ Some j) × (finds_key (site_at p.sites j).act ≡ true)

-- and another one, of which a site is to have the key, in the same map
pub record AsksSame (p : ProgramView) (row : ℕ → ℕ) (r i j : ℕ) : Type 0 where
  pub sought : IsSought p row r i
  pub map : (site_at p.sites i).map ≡ (site_at p.sites j).map
  pub key : (site_at p.sites i).key ≡ (site_at p.sites j).key

-- ---- what the nets stand for, of a packet that holds the rows before
-- the tables, which have the maps' declarations, and their slots
pub record ShowsMaps {N : Type 0} (v : Env N) (nets : StageNets N) (t : TableState) : Type 0 where
  pub tables : AreTables t
  pub decls : t.decls ≡ decls_of nets.maps.now
  pub maps : (m : ℕ) (d : MapNets N) → m < length nets.maps.now → ShowsTable v t m (get_or nets.maps.now m d)

-- the word under the pointer of a site, where that is to a slot
pub record ShowsEntry {N : Type 0} (v : Env N) (p : ProgramView) (t : TableState) (before : StageValues) (j : ℕ) (word : Operand N) : Type 0 where
  pub value : HasValue t (site_at p.sites j).map (access_pointer before (site_at p.sites j))
  pub under : ShowsWord v t (site_at p.sites j).map (access_start (site_at p.sites j).act / 8) (access_pointer before (site_at p.sites j)) word

-- all that the read of a site takes: the cells of all sites, the slots, and under the pointer of an access the word
pub record ShowsReads {N : Type 0} (v : Env N) (p : ProgramView) (nets : StageNets N) (t : TableState) (before : StageValues) (j : ℕ) : Type 0 where
  pub maps : ShowsMaps v nets t
  pub sites : (i : ℕ) (d : SiteNets N) → i < length p.sites → ShowsSite v p before i (operands_of (get_or nets.sites.now i d))
  pub entry : (d : Operand N) → answers_number (site_at p.sites j).act ≡ true → ShowsEntry v p t before j (get_or nets.words.now j d)

-- Where operands are given for the slots under keys, one for each site, that of the site stands for the slot under the key that it looks for.
pub record ShowsFound {N : Type 0} (v : Env N) (p : ProgramView) (nets : StageNets N) (slots : List (Operand N)) (t : TableState) (before : StageValues) (j : ℕ) : Type 0 where
  pub reads : ShowsReads v p nets t before j
  pub slot : (d : Operand N) → j < length slots → finds_key (site_at p.sites j).act ≡ true → ShowsSlot v p t before j (get_or slots j d)

-- an operand for each site, of as many bits as pointers have
pub record AreSlots {N : Type 0} (p : ProgramView) (nets : StageNets N) (slots : List (Operand N)) : Type 0 where
  pub count : length slots ≡ length p.sites
  pub operands : All IsOperand slots
  pub bits : All (HasBits nets.bits) slots

-- all of these are numbers or among these operands
pub record AllAreThere {N : Type 0} (ins : List (Operand N)) (nets : StageNets N) (slots : List (Operand N)) : Type 0 where
  pub nets_there : NetsAreThere ins nets
  pub slots_there : All (IsAvailable ins) slots

-- ---- the slots under the keys that a row looks for
-- Wires become more, and after them stand operands of sites from the first on: those of the sites that the row reads and that look for a key for the slots under their keys.
pub record AreSought {P : Type 0} (part : P) (p : ProgramView) (row : ℕ → ℕ) (r : ℕ) (nets : StageNets (Name P)) (old new : List (BlockWireTree (Name P))) (slots : List (Operand (Name P))) : Type 0 where
  pub adds : AddWires part old new
  pub operands : All IsOperand slots
  pub bits : All (HasBits nets.bits) slots
  pub wires : (outside : List (Operand (Name P))) → AreWires part outside old → NetsAreThere (behind part outside old) nets → AreWires part outside new
  pub there : (outside : List (Operand (Name P))) → AreWires part outside old → NetsAreThere (behind part outside old) nets → All (IsAvailable (behind part outside new)) slots
  pub shows :
      (outside : List (Operand (Name P))) (v : Env (Name P)) (t : TableState) (before : StageValues) → AreWires part outside old → NetsAreThere (behind part outside old) nets → AreFit v outside → Solve v part 0 new
      → (j : ℕ) (d : Operand (Name P)) → j < length slots → IsSought p row r j → ShowsReads v p nets t before j → ShowsSlot v p t before j (get_or slots j d)

-- ---- the read of a site in a row
pub record IsSiteRead {P : Type 0} (part : P) (p : ProgramView) (row : ℕ → ℕ) (r : ℕ) (nets : StageNets (Name P)) (slots : List (Operand (Name P))) (j from width : ℕ) (old new : List (BlockWireTree (Name P))) (o : ReadNets (Name P)) : Type 0 where
  pub cells : AreCells nets.bits width o
  pub adds : AddWires part old new
  pub wires : (outside : List (Operand (Name P))) → AreWires part outside old → AllAreThere (behind part outside old) nets slots → AreWires part outside new
  pub there : (outside : List (Operand (Name P))) → AreWires part outside old → AllAreThere (behind part outside old) nets slots → All (IsAvailable (behind part outside new)) (o.found ∷ o.there ∷ o.answer ∷ [])
  pub found :
      finds_key (site_at p.sites j).act ≡ true → (outside : List (Operand (Name P))) (v : Env (Name P)) (t : TableState) (before : StageValues) → AreWires part outside old → AllAreThere (behind part outside old) nets slots → AreFit v outside → Solve v part 0 new → ShowsFound v p nets slots t before j
      → (number_in v o.found ≡ pointer_number (found_pointer p t before (pending p row r j) j)) × (number_in v o.there ≡ bit (not (is_null (found_pointer p t before (pending p row r j) j))))
  pub answer :
      reads (site_at p.sites j).act ≡ true → (outside : List (Operand (Name P))) (v : Env (Name P)) (t : TableState) (before : StageValues) → AreWires part outside old → AllAreThere (behind part outside old) nets slots → AreFit v outside → Solve v part 0 new → ShowsFound v p nets slots t before j
      → number_in v o.answer ≡ bits_from (answer_over p t before (pending p row r j) j) from width

-- ---- the cells of a packet after the row
-- It held the same of the earlier rows before it, and by that the nets stand for what the reads of the row take.
pub record ShowsRow {N : Type 0} (v : Env N) (p : ProgramView) (row : ℕ → ℕ) (r : ℕ) (nets : StageNets N) (t : TableState) (before h : StageValues) : Type 0 where
  pub alike : AreAlike p row r before h
  pub reads : (c j : ℕ) → c < length p.cells → row c ≡ r → site_in (cell_at p.cells c).op ≡ Some j → ShowsReads v p nets t before j

-- the same with the slots under keys
pub record ShowsRead {N : Type 0} (v : Env N) (p : ProgramView) (row : ℕ → ℕ) (r : ℕ) (nets : StageNets N) (slots : List (Operand N)) (t : TableState) (before h : StageValues) : Type 0 where
  pub alike : AreAlike p row r before h
  pub reads : (c j : ℕ) → c < length p.cells → row c ≡ r → site_in (cell_at p.cells c).op ≡ Some j → ShowsFound v p nets slots t before j

-- Wires and the tables of cells and of pointers become more: they get the cells that read the sites from one number up to another in the row, and nothing that was
-- there goes. Whatever comes from outside, after the wires stands all that is in them, and it has the numbers of what the packet holds after the row, where that was
-- so before. Products stay apart.
pub record AreRead {P : Type 0} (part : P) (p : ProgramView) (row : ℕ → ℕ) (r : ℕ) (nets : StageNets (Name P)) (slots : List (Operand (Name P))) (low high : ℕ) (old new : List (BlockWireTree (Name P))) (before after pointers those : List (Option (Operand (Name P)))) : Type 0 where
  pub cells_are : IsTable p.cells after
  pub pointers_are : IsPointers p.cells nets.bits those
  pub found : (c j : ℕ) → c < length p.cells → row c ≡ r → (cell_at p.cells c).op ≡ Found j → low ≤ j → j < high → IsIn those c
  pub read : (c j : ℕ) → c < length p.cells → row c ≡ r → site_in (cell_at p.cells c).op ≡ Some j → low ≤ j → j < high → IsIn after c
  pub grows : (k : ℕ) → IsIn before k → IsIn after k
  pub grows_pointers : (k : ℕ) → IsIn pointers k → IsIn those k
  pub earlier : (v : Env (Name P)) → Solve v part 0 new → Solve v part 0 old
  pub stays : (outside : List (Operand (Name P))) (a : Operand (Name P)) → IsAvailable (behind part outside old) a → IsAvailable (behind part outside new) a
  pub there : (outside : List (Operand (Name P))) → AllAreThere (behind part outside old) nets slots → BothThere part outside old before pointers → BothThere part outside new after those
  pub value :
      (outside : List (Operand (Name P))) (v : Env (Name P)) (t : TableState) (packet : PacketIn) (held h : StageValues) → AllAreThere (behind part outside old) nets slots → BothThere part outside old before pointers → AreFit v outside → Solve v part 0 new → ShowsRead v p row r nets slots t held h → IsRowMade p row r t packet h
      → Holds v before (stage_value h) → HoldsPointers v pointers (pointer_in h) → Holds v after (stage_value h) × HoldsPointers v those (pointer_in h)
  pub apart :
      (clean : ℕ → Bool) (marks : List Bool) → ((c : ℕ) → IsReadHere p row r c → clean c ≡ false) → KeepApart part clean marks old before → (next : List Bool) × KeepApart part clean next new after
