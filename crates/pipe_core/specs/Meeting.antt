-- A change touches a read on the path only where what it changes and what is read meet.
use Rattle.std.specs.Prelude.{◌≡◌, ℕ, ◌<◌, true, ◌⊎◌, List, length, take, Contains}
use Rattle.hazard_core.specs.xdp_maps.Touched.{Resource, Present, Content, Size, reads, writes as resources_written}
use Rattle.hazard_core.specs.cell_core.Formed.{AllFit}
use Rattle.hazard_core.specs.cell_core.Sites.{ProgramView, site_at, operation_on, after}
use Rattle.hazard_core.specs.Tables.{TableState, maps_of, table_at, slot_at, has_key}
use Rattle.hazard_core.specs.Tabled.{AreTables}
use Rattle.hazard_core.specs.StageValues.{StageValues, stage_value, guard_on, writes}
use Rattle.hazard_core.specs.declared.change.Change.{Change}
use Rattle.hazard_core.specs.Marks.{touches}
use Rattle.hazard_core.specs.Commits.{committed, change_by}
use Rattle.hazard_core.specs.Replay.{replayed, HoldsReads}

-- what a site of a packet reads on the maps that the sites before it leave
abbrev pub site_reads : ProgramView → TableState → StageValues → ℕ → List Resource
site_reads p t h j =
    let maps = after (stage_value h) (maps_of t) (take j p.sites) in
    reads maps (site_at p.sites j).map (operation_on (stage_value h) maps (site_at p.sites j))

-- What is read is among what is changed: where a key comes or goes that, or the size; else the value under the key of the change, or under a key in its slot.
abbrev pub Meets : TableState → Change → List Resource → Type 0
Meets t e rs =
    (e.presence ≡ true) × (Contains rs (Present e.map e.key) ⊎ Contains rs (Size e.map))
    ⊎ (Contains rs (Content e.map e.key) ⊎ ((key : List ℕ) × (has_key key (slot_at (table_at t e.map) e.slot) ≡ true) × Contains rs (Content e.map key)))

-- Of a packet that holds on its path what it finds on the tables.
abbrev pub TouchesWhatIsRead : Type 0
TouchesWhatIsRead =
    (p : ProgramView) (t : TableState) (h : StageValues) → AreTables t → AllFit t.decls p.sites → HoldsReads p t h
    → (j : ℕ) → j < length p.sites → guard_on h (site_at p.sites j) ≡ true → (e : Change) → touches p t.decls h j e ≡ true → Meets t e (site_reads p t h j)

-- what it writes there
abbrev pub site_writes : ProgramView → TableState → StageValues → ℕ → List Resource
site_writes p t h j =
    let maps = after (stage_value h) (maps_of t) (take j p.sites) in
    resources_written maps (site_at p.sites j).map (operation_on (stage_value h) maps (site_at p.sites j))

-- What a change changes is written: the value under its key; where the key comes or goes that too, and the size. Its slot has no other key after it.
pub record IsWritten (t : TableState) (e : Change) (ws : List Resource) : Type 0 where
  pub content : Contains ws (Content e.map e.key)
  pub present : e.presence ≡ true → Contains ws (Present e.map e.key) × Contains ws (Size e.map)
  pub slot : (key : List ℕ) → has_key key (slot_at (table_at t e.map) e.slot) ≡ true → key ≡ e.key

-- So it is of each operation of such a packet, committed in its turn.
abbrev pub ChangesAreWritten : Type 0
ChangesAreWritten =
    (p : ProgramView) (t : TableState) (taken : List ℕ) (h : StageValues) → AreTables t → AllFit t.decls p.sites → length taken ≡ length p.sites → HoldsReads p t h
    → (j : ℕ) → j < length p.sites → writes p t.decls h j ≡ true
    → (let r = replayed p h (record { tables = t; taken = taken }) j in IsWritten (committed p r.tables r.taken h j) (change_by p r.tables r.taken h j) (site_writes p t h j))
