-- The operations of one packet, one after another.
use Rattle.std.specs.Prelude.{◌≡◌, ℕ, zero, suc, ◌<◌, ◌≤◌, ◌==◌, nat_lt, Bool, true, false, not, ◌&&◌, ◌||◌, if◌then◌else◌, List, length, take}
use Rattle.std.specs.List.{filter, list_all}
use Rattle.xdp_maps.specs.declared.decl.MapDecl.{MapDecl}
use Rattle.xdp_maps.specs.declared.decl.MapKind.TheVariants.{Hash}
use Rattle.cell_core.specs.declared.site.Act.TheVariants as act
use Rattle.cell_core.specs.declared.operator.Operator.TheVariants.{Found, Answer}
pub use Rattle.cell_core.specs.Acts.{is_access, asks, says_done}
use Rattle.cell_core.specs.Cells.{bit, on}
use Rattle.cell_core.specs.Sites.{ProgramView, site_at, records, after, read_on}
use Rattle.cell_core.specs.Formed.{AllFit}
use Rattle.cell_core.specs.Rows.{numbers}
use Rattle.hazard_core.specs.Tables.{TableState, decl_of, table_at, maps_of}
use Rattle.hazard_core.specs.StageValues.{InSlot, slot_pointer, StageValues, stage_value, pointer_in, is_null, guard_on, asked_key, access_pointer, found_cell, answer_cell, is_update, is_delete, writes, parts, pending}
use Rattle.hazard_core.specs.Overlay.{found_pointer, answer_over}
use Rattle.hazard_core.specs.Commits.{written_slot, committed, taken_after}
use Rattle.hazard_core.specs.Changes.{IsRightCommit, finds_key, reads}
use Rattle.hazard_core.specs.Tabled.{AreTables}

-- tables, and the slots that the packet's updates took
pub record Replayed : Type 0 where
  pub tables : TableState
  pub taken : List ℕ

abbrev pub replay_one : ProgramView → StageValues → Replayed → ℕ → Replayed
replay_one p h r j =
    if writes p r.tables.decls h j
    then record { tables = committed p r.tables r.taken h j; taken = taken_after p r.tables r.taken h j }
    else r

-- after the operations of the sites below j
abbrev pub replayed : ProgramView → StageValues → Replayed → ℕ → Replayed
replayed p h r zero = r
replayed p h r (suc j) = replay_one p h (replayed p h r j) j

-- the operations before site j that may write its map
abbrev pub earlier : ProgramView → ℕ → List ℕ
earlier p j = filter (λ i. ((site_at p.sites i).map == (site_at p.sites j).map) && records (site_at p.sites i).act) (numbers 0 j)

-- ---- what a packet holds that is on its path

-- An access goes through the pointer that a lookup of its key before it found. Between the two no operation of the packet brings a key of
-- that map or takes one away.
pub record IsAccess (p : ProgramView) (decls : List MapDecl) (h : StageValues) (j : ℕ) : Type 0 where
  pub lookup : ℕ
  pub before : lookup < j
  pub looks_up : (site_at p.sites lookup).act ≡ act.Lookup
  pub map : (site_at p.sites lookup).map ≡ (site_at p.sites j).map
  pub guard : guard_on h (site_at p.sites lookup) ≡ true
  pub key : asked_key decls h (site_at p.sites lookup) ≡ asked_key decls h (site_at p.sites j)
  pub pointer : access_pointer h (site_at p.sites j) ≡ pointer_in h (found_cell p.cells lookup)
  pub some : on (stage_value h (found_cell p.cells lookup)) ≡ true
  pub between : (i : ℕ) → lookup < i → i < j → (site_at p.sites i).map ≡ (site_at p.sites j).map → (decl_of decls (site_at p.sites j).map).kind ≡ Hash → writes p decls h i ≡ true
      → is_update (site_at p.sites i).act || is_delete (site_at p.sites i).act ≡ false

-- Where guards are on, the packet holds what it finds on these tables over its own earlier operations.
pub record HoldsReads (p : ProgramView) (t : TableState) (h : StageValues) : Type 0 where
  pub found : (j : ℕ) → j < length p.sites → guard_on h (site_at p.sites j) ≡ true → asks (site_at p.sites j).act (decl_of t.decls (site_at p.sites j).map).kind ≡ true
      → pointer_in h (found_cell p.cells j) ≡ found_pointer p t h (earlier p j) j
  pub absent : (j : ℕ) → j < length p.sites → guard_on h (site_at p.sites j) ≡ true → asks (site_at p.sites j).act (decl_of t.decls (site_at p.sites j).map).kind ≡ true
      → is_null (pointer_in h (found_cell p.cells j)) ≡ true → on (stage_value h (found_cell p.cells j)) ≡ false
  pub done : (j : ℕ) → j < length p.sites → guard_on h (site_at p.sites j) ≡ true → says_done (site_at p.sites j).act (decl_of t.decls (site_at p.sites j).map).kind ≡ true
      → (stage_value h (answer_cell p.cells j) == 0) ≡ (answer_over p t h (earlier p j) j == 0)
  pub accesses : (j : ℕ) → j < length p.sites → guard_on h (site_at p.sites j) ≡ true → is_access (site_at p.sites j).act ≡ true → IsAccess p t.decls h j

-- ---- and what follows

pub record IsInTurn (p : ProgramView) (t : TableState) (taken : List ℕ) (h : StageValues) (j : ℕ) : Type 0 where
  pub decls : (replayed p h (record { tables = t; taken = taken }) j).tables.decls ≡ t.decls
  pub tables : AreTables (replayed p h (record { tables = t; taken = taken }) j).tables
  pub right : j < length p.sites → writes p t.decls h j ≡ true
      → IsRightCommit p (replayed p h (record { tables = t; taken = taken }) j).tables (replayed p h (record { tables = t; taken = taken }) j).taken h j
  -- but for a delete the slot that was written has the operation's key
  pub lands : j < length p.sites → writes p t.decls h j ≡ true → is_delete (site_at p.sites j).act ≡ false
      → (let r = replayed p h (record { tables = t; taken = taken }) j in
      slot_pointer (table_at (committed p r.tables r.taken h j) (site_at p.sites j).map) (asked_key t.decls h (site_at p.sites j)) ≡ InSlot (written_slot p r.tables r.taken h j))

-- The operations of such a packet, committed one after another, each write a slot of their own key, and leave tables.
abbrev pub CommitsInTurn : Type 0
CommitsInTurn =
    (p : ProgramView) (t : TableState) (taken : List ℕ) (h : StageValues) → AreTables t → AllFit t.decls p.sites → length taken ≡ length p.sites → HoldsReads p t h
    → (j : ℕ) → j ≤ length p.sites → IsInTurn p t taken h j

-- A read in row r that has after it each earlier operation of its map that writes finds what it finds over all of them.
abbrev pub SeesEarlier : Type 0
SeesEarlier =
    (p : ProgramView) (row : ℕ → ℕ) (r j : ℕ) (t : TableState) (h : StageValues)
    → ((i : ℕ) → i < j → (site_at p.sites i).map ≡ (site_at p.sites j).map → writes p t.decls h i ≡ true → list_all (λ c. nat_lt (row c) r) (parts p i) ≡ true)
    → (found_pointer p t h (pending p row r j) j ≡ found_pointer p t h (earlier p j) j) × (answer_over p t h (pending p row r j) j ≡ answer_over p t h (earlier p j) j)

-- They leave the tables of the maps that the sites below one leave, one after another.
abbrev pub MapsInTurn : Type 0
MapsInTurn =
    (p : ProgramView) (t : TableState) (taken : List ℕ) (h : StageValues) → AreTables t → AllFit t.decls p.sites → length taken ≡ length p.sites → HoldsReads p t h
    → (j : ℕ) → j ≤ length p.sites → maps_of (replayed p h (record { tables = t; taken = taken }) j).tables ≡ after (stage_value h) (maps_of t) (take j p.sites)

-- And each read on the path is what the read of its site finds on the maps that the sites before it leave.
pub record ReadsRight (p : ProgramView) (t : TableState) (h : StageValues) (j : ℕ) : Type 0 where
  pub found : finds_key (site_at p.sites j).act ≡ true
      → bit (not (is_null (found_pointer p t h (earlier p j) j))) ≡ read_on (stage_value h) (after (stage_value h) (maps_of t) (take j p.sites)) (site_at p.sites j) (Found j)
  pub answer : reads (site_at p.sites j).act ≡ true → answer_over p t h (earlier p j) j ≡ read_on (stage_value h) (after (stage_value h) (maps_of t) (take j p.sites)) (site_at p.sites j) (Answer j)

abbrev pub ReadsInTurn : Type 0
ReadsInTurn =
    (p : ProgramView) (t : TableState) (h : StageValues) → AreTables t → AllFit t.decls p.sites → HoldsReads p t h
    → (j : ℕ) → j < length p.sites → guard_on h (site_at p.sites j) ≡ true → ReadsRight p t h j
