-- A read that a change does not touch finds what it found before.
use Rattle.std.specs.Prelude.{◌≡◌, ◌≢◌, ℕ, Bool, true, false, ◌⊎◌, List, [], length, ◌<◌}
use Rattle.std.proofs.Common.{get_or}
use Rattle.xdp_maps.specs.declared.decl.MapKind.TheVariants.{Hash, Array}
use Rattle.cell_core.specs.declared.site.Act.TheVariants as act
pub use Rattle.cell_core.specs.Acts.{finds_key, reads}
use Rattle.cell_core.specs.Sites.{ProgramView, site_at}
use Rattle.hazard_core.specs.Tables.{Slot, TableState, decl_of, table_at, slot_at, used_count}
use Rattle.hazard_core.specs.StageValues.{StageValues, pointer_in, found_cell, slot_pointer, asked_key, is_delete, writes}
use Rattle.hazard_core.specs.Overlay.{found_pointer, answer_over}
use Rattle.hazard_core.specs.Marks.{Change, touches}
use Rattle.hazard_core.specs.Commits.{written_slot, committed, change_by, Access, host_written, host_change, word_in, may_write}

abbrev pub with_tables : TableState → List (List Slot) → TableState
with_tables t ts = record t { tables = ts }

-- These tables differ by a change: in the value of its slot, and where the key comes or goes in that key's slot and the number of keys.
pub record IsChange (t : TableState) (e : Change) (ts : List (List Slot)) : Type 0 where
  pub maps : (m : ℕ) → m ≢ e.map → get_or ts m [] ≡ table_at t m
  pub values : (n : ℕ) → n ≢ e.slot → (slot_at (get_or ts e.map []) n).value ≡ (slot_at (table_at t e.map) n).value
  pub keys : (key : List ℕ) → (key ≢ e.key) ⊎ (e.presence ≡ false) → slot_pointer (get_or ts e.map []) key ≡ slot_pointer (table_at t e.map) key
  pub size : e.presence ≡ false → used_count (get_or ts e.map []) ≡ used_count (table_at t e.map)
  pub arrays : (decl_of t.decls e.map).kind ≡ Array → e.presence ≡ false

-- An untouched read of site j: the entry under its key stays, and so does its answer, whatever the packet holds else and whatever
-- operations of its own it sees.
pub record Stays (p : ProgramView) (t u : TableState) (h : StageValues) (before : List ℕ) (j : ℕ) : Type 0 where
  pub found : finds_key (site_at p.sites j).act ≡ true → found_pointer p u h before j ≡ found_pointer p t h before j
  pub answer : reads (site_at p.sites j).act ≡ true → answer_over p u h before j ≡ answer_over p t h before j

-- Of an update of a hash the packet holds the entry that it found.
abbrev pub Unmoved : Type 0
Unmoved =
    (p : ProgramView) (t : TableState) (ts : List (List Slot)) (e : Change) (h : StageValues) (before : List ℕ) (j : ℕ) → IsChange t e ts → touches p t.decls h j e ≡ false
    → ((site_at p.sites j).act ≡ act.Update → (decl_of t.decls (site_at p.sites j).map).kind ≡ Hash → pointer_in h (found_cell p.cells j) ≡ found_pointer p t h before j)
    → Stays p t (with_tables t ts) h before j

-- The operation of a packet at site j writes a slot that there is; a delete that of its key.
pub record IsRightCommit (p : ProgramView) (t : TableState) (taken : List ℕ) (h : StageValues) (j : ℕ) : Type 0 where
  pub map : (site_at p.sites j).map < length t.tables
  pub slot : written_slot p t taken h j < length (table_at t (site_at p.sites j).map)
  pub used : is_delete (site_at p.sites j).act ≡ true → (slot_at (table_at t (site_at p.sites j).map) (written_slot p t taken h j)).used ≡ true
  pub key : is_delete (site_at p.sites j).act ≡ true → (slot_at (table_at t (site_at p.sites j).map) (written_slot p t taken h j)).key ≡ asked_key t.decls h (site_at p.sites j)

-- A commit changes the tables as its change says.
abbrev pub CommitsChange : Type 0
CommitsChange =
    (p : ProgramView) (t : TableState) (taken : List ℕ) (h : StageValues) (j : ℕ) → writes p t.decls h j ≡ true → IsRightCommit p t taken h j
    → IsChange t (change_by p t taken h j) (committed p t taken h j).tables

-- So does what the host may write while packets are inside.
abbrev pub HostChanges : Type 0
HostChanges =
    (t : TableState) (a : Access) (n : ℕ) → a.map < length t.tables → a.index < length (table_at t a.map)
    → may_write false (slot_at (table_at t a.map) a.index) (word_in t a) ≡ true → IsChange t (host_change t a) (host_written t a n).tables
