-- In which rows stands what a node adds, by the rows of data places before its instruction.
use Rattle.std.specs.Prelude.{ℕ, ◌≡◌, ◌<◌, ◌≤◌, ◌++◌, max, Bool, true, false, List, length, slice_index, All}
use Rattle.std.specs.List.{list_any}
use Rattle.xdp_machine.specs.bpf_isa.declared.instruction.Insn.{Insn}
use Rattle.xdp_machine.specs.xdp_maps.declared.decl.MapDecl.{MapDecl}
use Rattle.kind_core.specs.declared.kind.Kinds.{Kinds}
use Rattle.kind_core.specs.Edges.{transferred}
use Rattle.cell_core.specs.Cells.{CellView}
use Rattle.cell_core.specs.Sites.{SiteView}
use Rattle.cell_core.specs.Rows.{AreRows}
use Rattle.operator_cells.specs.row_rules.PlaceRows.Locations.{first_pending}
use Rattle.operator_cells.specs.row_rules.PlaceRows.Spans.{pending_place, is_in}
use Rattle.operator_cells.specs.row_rules.PlaceRows.Reading.{result_row}
use Rattle.operator_cells.specs.row_rules.PlaceRows.Writing.{writes_as, record_as, made_row}
use Rattle.operator_cells.specs.declared.held_cells.machine_cells.RegisterCells.{RegisterCells}
use Rattle.operator_cells.specs.declared.held_cells.way.Way.{Way}
use Rattle.operator_cells.specs.HeldCells.RegisterCells.{PointerView}
use Rattle.operator_cells.specs.HeldCells.Rows.{number_at, held_row, leaving_row, written_row, WriteWithin}
use Rattle.edge_cells.specs.declared.joining.Here.{Here}
use Rattle.predicate_core.specs.StepCells.Stepping.{MadeView}

-- No data place before an instruction stands in a later row than this: of what is held, and for each map of the cell of what is pending of it.
pub record AreWithin (decls : List MapDecl) (row : ℕ → ℕ) (ps : List PointerView) (h : RegisterCells) (k : Kinds) (waiting : List ℕ) (before : ℕ → ℕ) : Type 0 where
  pub held : (place : ℕ) → place < first_pending → held_row row ps h k place ≤ before place
  pub count : length decls ≤ length waiting
  pub pending : (q : ℕ) → q < length waiting → row (slice_index waiting q) ≤ before (pending_place q)

-- The rows of what is added, where those of places before are within these: of new cells and of the edges that leave, with what is held there.
pub record StandIn (decls : List MapDecl) (node : ℕ) (k after : Kinds) (here : Here) (i : Insn) (old new : MadeView) (more : List Way) (row : ℕ → ℕ) (before : ℕ → ℕ) : Type 0 where
  pub cells : (c : ℕ) → length old.cells ≤ c → c < length new.cells → row c ≤ max (leaving_row before k i (row here.guard)) (made_row before decls k after i)
  pub bits : All (λ e. row e.bit ≤ leaving_row before k i (row here.guard)) more
  pub written : (place : ℕ) → place < first_pending → list_any (is_in place) (writes_as k i i.op) ≡ true → All (λ e. held_row row new.pointers e.held e.kinds place ≤ result_row before decls k after i) more
  pub kept : (place : ℕ) → place < first_pending → list_any (is_in place) (writes_as k i i.op) ≡ false → All (λ e. held_row row new.pointers e.held e.kinds place ≤ before place) more
  pub writes : WriteWithin (record_as decls k i i.op) old.cells new.cells old.sites new.sites row (written_row before decls k after i)

-- What the code of a node adds: rows of all cells are rows of those that were there; the edges that leave hold one thing, and at places that
-- are not written what was held before.
pub record NodeRows (decls : List MapDecl) (node : ℕ) (k : Kinds) (here : Here) (i : Insn) (is_ref : Bool) (pending : List ℕ) (old new : MadeView) : Type 0 where
  pub rows : (row : ℕ → ℕ) → AreRows new.cells row → AreRows old.cells row
  pub more : List Way
  pub ways_are : new.ways ≡ old.ways ++ more
  pub next : RegisterCells
  pub held : All (λ e. e.held ≡ next) more
  pub same : (place : ℕ) → place < first_pending → list_any (is_in place) (writes_as k i i.op) ≡ false → number_at next place ≡ number_at here.held place
  pub stand : (row : ℕ → ℕ) (before : ℕ → ℕ) → AreRows new.cells row → AreWithin decls row old.pointers here.held k pending before
      → StandIn decls node k (transferred decls k i node is_ref false) here i old new more row before

-- ---- an instruction that leads on

-- The rows of what it adds, and of what is held after it.
pub record StandBehind (decls : List MapDecl) (k after : Kinds) (i : Insn) (next : RegisterCells) (old new : List CellView) (qs : List PointerView) (sites sites2 : List SiteView) (row : ℕ → ℕ) (before : ℕ → ℕ) : Type 0 where
  pub cells : (c : ℕ) → length old ≤ c → c < length new → row c ≤ made_row before decls k after i
  pub written : (place : ℕ) → list_any (is_in place) (writes_as k i i.op) ≡ true → held_row row qs next after place ≤ result_row before decls k after i
  pub kept : (place : ℕ) → list_any (is_in place) (writes_as k i i.op) ≡ false → held_row row qs next after place ≤ before place
  pub writes : WriteWithin (record_as decls k i i.op) old new sites sites2 row (written_row before decls k after i)

-- What its code adds: rows of all cells are rows of those that were there, and places that are not written hold what they held.
pub record InstructionRows (decls : List MapDecl) (k : Kinds) (h : RegisterCells) (i : Insn) (after : Kinds) (next : RegisterCells) (pending : List ℕ) (old new : List CellView) (ps qs : List PointerView) (sites sites2 : List SiteView) : Type 0 where
  pub rows : (row : ℕ → ℕ) → AreRows new row → AreRows old row
  pub same : (place : ℕ) → place < first_pending → list_any (is_in place) (writes_as k i i.op) ≡ false → number_at next place ≡ number_at h place
  pub stand : (row : ℕ → ℕ) (before : ℕ → ℕ) → AreRows new row → AreWithin decls row ps h k pending before → StandBehind decls k after i next old new qs sites sites2 row before
