-- In which rows stands what meets at a part of a machine.
use Rattle.std.specs.Prelude.{ℕ, ◌≡◌, ◌<◌, ◌≤◌, max, true, List, [], ◌∷◌, slice_index, All}
use Rattle.kind_core.specs.declared.kind.Kinds.{Kinds}
use Rattle.cell_core.specs.Cells.{CellView}
use Rattle.cell_core.specs.Rows.{AreRows, greatest, numbers}
use Rattle.operator_cells.specs.Rising.{GrowsTo}
use Rattle.operator_cells.specs.row_rules.declared.place_rows.location.Location.{Location}
use Rattle.operator_cells.specs.row_rules.declared.place_rows.location.Location.TheVariants as location
use Rattle.operator_cells.specs.row_rules.PlaceRows.Locations.{first_pending, location_number}
use Rattle.operator_cells.specs.declared.held_cells.way.Way.{Way}
use Rattle.operator_cells.specs.HeldCells.RegisterCells.{PointerView, pointer_at}
use Rattle.operator_cells.specs.HeldCells.Rows.{cells_of_pointer, number_row, value_row, number_at, hold_one, met_row, choosing_row}
use Rattle.edge_cells.specs.declared.part.Part.{Part}
use Rattle.edge_cells.specs.declared.part.Part.TheVariants.{Register, Slot, Byte, Target}
use Rattle.edge_cells.specs.Meeting.{held_at, kind_at, number_in}

-- the location of a part, and its number
abbrev pub location_of : Part → Location
location_of (Register r) = location.Register r
location_of (Slot s) = location.StackSlot s
location_of (Byte i) = location.PacketByte i
location_of Target = location.Target

abbrev pub data_place : Part → ℕ
data_place part = location_number (location_of part)

-- the greatest row of the bits of edges and of what they bring
abbrev pub choice_row : (ℕ → ℕ) → ((ℕ → ℕ) → Way → ℕ) → List Way → ℕ
choice_row row brings [] = 0
choice_row row brings (e ∷ es) = max (max (row e.bit) (brings row e)) (choice_row row brings es)

-- the row of a number that an edge brings to a part, and of a pointer's cells
abbrev pub number_row_brought : Part → (ℕ → ℕ) → Way → ℕ
number_row_brought part row e = number_row row (number_in (kind_at part e.kinds)) (held_at part e.held)

abbrev pub pointer_row_brought : List PointerView → Part → (ℕ → ℕ) → Way → ℕ
pointer_row_brought ps part row e = greatest row (cells_of_pointer (pointer_at ps (held_at part e.held)))

-- Number c, which is held at a part where edges meet, stands in no later row than what is met there; where all edges hold one it is that.
pub record MetTo (cells : List CellView) (ps qs : List PointerView) (here : List Way) (k : Kinds) (part : Part) (c : ℕ) : Type 0 where
  pub value : (row : ℕ → ℕ) → AreRows cells row → value_row row qs (kind_at part k) c ≤ met_row row ps here (data_place part)
  pub same : hold_one here (data_place part) ≡ true → All (λ e. c ≡ number_at e.held (data_place part)) here

-- The same after new cells, which stand in no later row than what is chosen at the part: none is made where all hold one.
pub record MeetsTo (old new : List CellView) (ps qs : List PointerView) (here : List Way) (k : Kinds) (part : Part) (c : ℕ) : Type 0 where
  pub grows : GrowsTo old new (λ row. choosing_row row ps here k (data_place part))
  pub met : MetTo new ps qs here k part c

-- the greatest row of what is chosen at any place
unfoldable pub choosing_rows : (ℕ → ℕ) → List PointerView → List Way → Kinds → ℕ
choosing_rows row ps here k = greatest (choosing_row row ps here k) (numbers 0 first_pending)

-- The same of n parts of one sort.
pub record MeetRowTo (old new : List CellView) (ps qs : List PointerView) (here : List Way) (k : Kinds) (part : ℕ → Part) (n : ℕ) (held : List ℕ) : Type 0 where
  pub grows : GrowsTo old new (λ row. choosing_rows row ps here k)
  pub each : (i : ℕ) → i < n → MetTo new ps qs here k (part i) (slice_index held i)
