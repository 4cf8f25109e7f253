-- Into which maps the pointers of packets lead.
use Rattle.std.specs.Prelude.{◌≡◌, ℕ, ◌<◌, ◌||◌, true, length}
use Rattle.cell_core.specs.xdp_machine.State.{PacketIn}
use Rattle.cell_core.specs.declared.operator.Operator.TheVariants.{Found}
use Rattle.cell_core.specs.Cells.{cell_at}
use Rattle.cell_core.specs.Sites.{ProgramView, site_at}
use Rattle.hazard_core.specs.declared.pointer.Pointer.{Pointer}
use Rattle.hazard_core.specs.declared.pointer.Pointer.TheVariants.{InSlot, Pending}
use Rattle.hazard_core.specs.Tables.{TableState, table_at}
use Rattle.hazard_core.specs.StageValues.{StageValues, pointer_in, is_update, is_delete, written_pointer}
use Rattle.hazard_core.specs.Rows.{with_row, nothing_held}
use Rattle.hazard_core.specs.TableLaws.Counts.{HaveSameSlots}

-- to a slot that the table of the map has, or to the entry that an operation on the map is to make
pub record LeadsInto (p : ProgramView) (t : TableState) (m : ℕ) (x : Pointer) : Type 0 where
  pub slot : (n : ℕ) → x ≡ InSlot n → n < length (table_at t m)
  pub made : (i : ℕ) → x ≡ Pending i → (site_at p.sites i).map ≡ m

-- What the packet found of keys leads into the maps of their sites.
pub record FoundsLead (p : ProgramView) (t : TableState) (h : StageValues) : Type 0 where
  pub count : length h.pointers ≡ length p.cells
  pub each : (c j : ℕ) → c < length p.cells → (cell_at p.cells c).op ≡ Found j → LeadsInto p t (site_at p.sites j).map (pointer_in h c)

-- So it is before the first row, after each further one, whatever the packet holds else, and where tables change that keep their slots.
abbrev pub BeginsLead : Type 0
BeginsLead = (p : ProgramView) (t : TableState) → FoundsLead p t (nothing_held p)

abbrev pub RowsLead : Type 0
RowsLead = (p : ProgramView) (row : ℕ → ℕ) (r : ℕ) (t : TableState) (packet : PacketIn) (h : StageValues) → FoundsLead p t h → FoundsLead p t (with_row p row r t packet h)

abbrev pub ChangesLead : Type 0
ChangesLead = (p : ProgramView) (t u : TableState) (h : StageValues) → HaveSameSlots t u → FoundsLead p t h → FoundsLead p u h

-- The entry that an update or a delete writes is one of its map.
abbrev pub WritesLead : Type 0
WritesLead =
    (p : ProgramView) (t : TableState) (h : StageValues) (j : ℕ) → FoundsLead p t h → (is_update (site_at p.sites j).act || is_delete (site_at p.sites j).act) ≡ true
    → LeadsInto p t (site_at p.sites j).map (written_pointer p t h j)
