-- In which rows stands what cells hold, by data places.
use Rattle.std.specs.Prelude.{ℕ, ◌≡◌, ◌+◌, ◌<◌, ◌≤◌, ◌==◌, max, nat_lt, ◌&&◌, Bool, true, false, not, if◌then◌else◌, Option, Some, None, List, [], ◌∷◌, ◌++◌, length, slice_index, get_or, All}
use Rattle.std.specs.List.{list_any, list_all}
use Rattle.cell_core.specs.bpf_isa.declared.operation.Op.{Op}
use Rattle.cell_core.specs.bpf_isa.declared.operation.Op.TheVariants.{Call, Jump, Load, LoadSigned}
use Rattle.cell_core.specs.bpf_isa.declared.instruction.Insn.{Insn}
use Rattle.cell_core.specs.xdp_maps.declared.decl.MapDecl.{MapDecl}
use Rattle.kind_core.specs.declared.number.Number.{Number}
use Rattle.kind_core.specs.declared.number.Number.TheVariants.{Known, Between}
use Rattle.kind_core.specs.declared.kind.Kind.{Kind}
use Rattle.kind_core.specs.declared.kind.Kind.TheVariants.{Unset, Num, Maybe, Entry}
use Rattle.kind_core.specs.declared.kind.Kinds.{Kinds}
use Rattle.kind_core.specs.NumberBounds.{any_number}
use Rattle.kind_core.specs.Kinds.{register}
use Rattle.kind_core.specs.Edges.{decided}
use Rattle.cell_core.specs.Cells.{CellView, cell_at, site_in}
use Rattle.cell_core.specs.Sites.{SiteView, site_at, records}
use Rattle.cell_core.specs.Rows.{AreRows, greatest, numbers}
use Rattle.operator_cells.specs.Rising.{GrowsTo}
use Rattle.row_rules.specs.declared.place_rows.location.Location.{Location}
use Rattle.row_rules.specs.declared.place_rows.location.Location.TheVariants.{Register, StackSlot, PacketByte, Target, PendingWrites}
use Rattle.row_rules.specs.declared.place_rows.span.Span.{Span}
use Rattle.row_rules.specs.declared.place_rows.recording.Record.{Record}
use Rattle.row_rules.specs.PlaceRows.Locations.{first_pending, location_at}
use Rattle.row_rules.specs.PlaceRows.Spans.{one, pending_place, map_of, is_in, span_row}
use Rattle.row_rules.specs.PlaceRows.Origins.{is_open}
use Rattle.row_rules.specs.PlaceRows.Reading.{right_of, is_known, result_row}
use Rattle.row_rules.specs.PlaceRows.Writing.{writes_as, record_as, taken_row, made_row}
use Rattle.operator_cells.specs.declared.held_cells.machine_cells.RegisterCells.{RegisterCells}
use Rattle.operator_cells.specs.declared.held_cells.way.Way.{Way}
use Rattle.operator_cells.specs.HeldCells.RegisterCells.{PointerView, pointer_at}

-- The cells of a value of a kind, of which a number is held: of a number that is not known its cell, of an answer of a lookup or a place in an
-- entry the pointer's, else none.
abbrev pub cells_of_number : Number → ℕ → List ℕ
cells_of_number (Between lo hi) c = c ∷ []
cells_of_number (Known n) c = []

abbrev pub cells_of_pointer : PointerView → List ℕ
cells_of_pointer p = p.found ∷ p.key

abbrev pub cells_of : List PointerView → Kind → ℕ → List ℕ
cells_of ps (Num x) c = cells_of_number x c
cells_of ps (Maybe q n) c = cells_of_pointer (pointer_at ps c)
cells_of ps (Entry q o) c = cells_of_pointer (pointer_at ps c)
cells_of ps k c = []

-- the greatest row of the cells of a number, or of a value; 0 where there are none
abbrev pub number_row : (ℕ → ℕ) → Number → ℕ → ℕ
number_row row x c = greatest row (cells_of_number x c)

abbrev pub value_row : (ℕ → ℕ) → List PointerView → Kind → ℕ → ℕ
value_row row ps k c = greatest row (cells_of ps k c)

-- The kind at a location: bytes of the packet and the target are numbers that are not known, and nothing is held of what is pending.
abbrev pub kind_by : Kinds → Location → Kind
kind_by k (Register r) = get_or k.registers r Unset
kind_by k (StackSlot s) = get_or k.slots s Unset
kind_by k (PacketByte i) = Num (any_number 64)
kind_by k Target = Num (any_number 64)
kind_by k (PendingWrites q) = Unset

-- and the number that is held
abbrev pub number_by : RegisterCells → Location → ℕ
number_by h (Register r) = slice_index h.registers r
number_by h (StackSlot s) = slice_index h.slots s
number_by h (PacketByte i) = slice_index h.window i
number_by h Target = h.target
number_by h (PendingWrites q) = 0

-- the greatest row of the cells at a location
abbrev pub located_row : (ℕ → ℕ) → List PointerView → RegisterCells → Kinds → Location → ℕ
located_row row ps h k l = value_row row ps (kind_by k l) (number_by h l)

-- the same by the location's number
abbrev pub kind_at : Kinds → ℕ → Kind
kind_at k place = kind_by k (location_at place)

abbrev pub number_at : RegisterCells → ℕ → ℕ
number_at h place = number_by h (location_at place)

abbrev pub held_row : (ℕ → ℕ) → List PointerView → RegisterCells → Kinds → ℕ → ℕ
held_row row ps h k place = located_row row ps h k (location_at place)

-- ---- an instruction

-- More cells up to a row; after them the places of these spans stand in no later row than a result, and all others hold what they held, in no
-- later row than before.
pub record LeavesTo (before : (ℕ → ℕ) → ℕ → ℕ) (ps : List PointerView) (h : RegisterCells) (after : Kinds) (next : RegisterCells) (old new : List CellView) (spans : List Span) (made result : (ℕ → ℕ) → ℕ) : Type 0 where
  pub grows : GrowsTo old new made
  pub written : (row : ℕ → ℕ) → AreRows new row → (place : ℕ) → list_any (is_in place) spans ≡ true → held_row row ps next after place ≤ result row
  pub kept : (row : ℕ → ℕ) → AreRows new row → (place : ℕ) → list_any (is_in place) spans ≡ false → held_row row ps next after place ≤ before row place
  pub same : (place : ℕ) → place < first_pending → list_any (is_in place) spans ≡ false → number_at next place ≡ number_at h place

-- The same of the cells of an instruction, by what it reads, writes and takes.
abbrev pub CarriesTo : List MapDecl → ((ℕ → ℕ) → ℕ → ℕ) → List PointerView → Insn → Kinds → RegisterCells → Kinds → RegisterCells → List CellView → List CellView → Type 0
CarriesTo decls before ps i k h after next old new =
    LeavesTo before ps h after next old new (writes_as k i i.op) (λ row. made_row (before row) decls k after i) (λ row. result_row (before row) decls k after i)

-- ---- an operation on a map

-- the map that an instruction may operate on
abbrev pub map_used : Kinds → Insn → Op → Option ℕ
map_used k i (Load size) = map_of (register k i.src)
map_used k i (LoadSigned size) = map_of (register k i.src)
map_used k i Call = map_of (register k 1)
map_used k i op = map_of (register k i.dst)

-- The rows of data places before an instruction: of what is held, and of the cell of what is pending of its map.
abbrev pub pending_before : (ℕ → ℕ) → Option ℕ → ℕ → ℕ → ℕ
pending_before row (Some q) c place = if place == pending_place q then row c else 0
pending_before row None c place = 0

abbrev pub row_before : (ℕ → ℕ) → List PointerView → RegisterCells → Kinds → Option ℕ → ℕ → ℕ → ℕ
row_before row ps h k q c place = if nat_lt place first_pending then held_row row ps h k place else pending_before row q c place

-- whether an instruction writes a place, as the first of its spans says
abbrev pub is_some_place : List Span → Bool
is_some_place [] = false
is_some_place (s ∷ ss) = nat_lt s.from s.end

-- the row of what a write of a map takes, and of what answers it where the instruction has a result
abbrev pub written_row : (ℕ → ℕ) → List MapDecl → Kinds → Kinds → Insn → ℕ
written_row row decls k after i = max (taken_row row (record_as decls k i i.op)) (if is_some_place (writes_as k i i.op) then result_row row decls k after i else 0)

-- a site is that of a write of a map
abbrev pub IsRecord : Option Record → SiteView → Type 0
IsRecord (Some r) s = r.map ≡ s.map
IsRecord None s = ⊥

-- Each new site that may write is that of the write that the instruction may make; what it takes, but its guard, and the new cells that read it
-- stand in no later row than this.
pub record WriteWithin (write : Option Record) (old new : List CellView) (sites sites2 : List SiteView) (row : ℕ → ℕ) (last : ℕ) : Type 0 where
  pub write_is : (j : ℕ) → length sites ≤ j → j < length sites2 → records (site_at sites2 j).act ≡ true → IsRecord write (site_at sites2 j)
  pub taken : (j : ℕ) → length sites ≤ j → j < length sites2 → records (site_at sites2 j).act ≡ true → greatest row ((site_at sites2 j).key ++ (site_at sites2 j).operands) ≤ last
  pub readers : (c j : ℕ) → length old ≤ c → c < length new → site_in (cell_at new c).op ≡ Some j → records (site_at sites2 j).act ≡ true → row c ≤ last

-- Of the cells and sites of an instruction that operates on a map, before which this cell stood for what is pending of it.
pub record OperatesTo (decls : List MapDecl) (i : Insn) (pending : ℕ) (k : Kinds) (h : RegisterCells) (after : Kinds) (next : RegisterCells) (old new : List CellView) (ps qs : List PointerView) (sites sites2 : List SiteView) : Type 0 where
  pub carries : CarriesTo decls (λ row. row_before row ps h k (map_used k i i.op) pending) qs i k h after next old new
  pub writes : (row : ℕ → ℕ) → AreRows new row → WriteWithin (record_as decls k i i.op) old new sites sites2 row (written_row (row_before row ps h k (map_used k i i.op) pending) decls k after i)
  pub declared : (q : ℕ) → map_used k i i.op ≡ Some q → q < length decls

-- ---- where edges meet

-- the greatest row of the bits of edges, and of what they hold at a place
abbrev pub bits_row : (ℕ → ℕ) → List Way → ℕ
bits_row row [] = 0
bits_row row (e ∷ es) = max (row e.bit) (bits_row row es)

abbrev pub brought_row : (ℕ → ℕ) → List PointerView → List Way → ℕ → ℕ
brought_row row ps [] place = 0
brought_row row ps (e ∷ es) place = max (held_row row ps e.held e.kinds place) (brought_row row ps es place)

-- an edge holds this at a place, and no number is known there
abbrev pub holds_at : ℕ → ℕ → Way → Bool
holds_at place c e = not (is_known (kind_at e.kinds place)) && (number_at e.held place == c)

-- all edges hold at a place what the first holds
abbrev pub hold_one : List Way → ℕ → Bool
hold_one [] place = true
hold_one (e ∷ es) place = list_all (holds_at place (number_at e.held place)) (e ∷ es)

-- What is chosen among edges stands in the greatest row of their bits and of what they hold; what all hold stands where it stood.
abbrev pub chosen_row : (ℕ → ℕ) → List PointerView → List Way → ℕ → ℕ
chosen_row row ps here place = max (bits_row row here) (brought_row row ps here place)

abbrev pub met_row : (ℕ → ℕ) → List PointerView → List Way → ℕ → ℕ
met_row row ps here place = if hold_one here place then brought_row row ps here place else chosen_row row ps here place

-- the row of the cells that are made for a place: none where there is no data, or where all hold one
abbrev pub choosing_row : (ℕ → ℕ) → List PointerView → List Way → Kinds → ℕ → ℕ
choosing_row row ps here k place = if is_open (kind_at k place) && not (hold_one here place) then chosen_row row ps here place else 0

-- Where edges meet: more cells, the guard, and what is held, place by place.
pub record JoinsTo (old new : List CellView) (ps qs : List PointerView) (here : List Way) (k : Kinds) (guard : ℕ) (h : RegisterCells) : Type 0 where
  pub grows : GrowsTo old new (λ row. max (bits_row row here) (greatest (choosing_row row ps here k) (numbers 0 first_pending)))
  pub guard_row : (row : ℕ → ℕ) → AreRows new row → row guard ≤ bits_row row here
  pub held : (row : ℕ → ℕ) → AreRows new row → (place : ℕ) → place < first_pending → held_row row qs h k place ≤ met_row row ps here place
  pub same : (place : ℕ) → place < first_pending → hold_one here place ≡ true → All (λ e. number_at h place ≡ number_at e.held place) here

-- ---- edges that leave

-- the row of the edges that leave an instruction: that of its guard, and of a jump that is not decided also one after what is compared
abbrev pub undecided_row : (ℕ → ℕ) → Insn → Op → ℕ → Option Bool → ℕ
undecided_row row i (Jump w c s) guard None = max guard (1 + max (span_row row (one i.dst)) (span_row row (right_of i s)))
undecided_row row i op guard d = guard

abbrev pub leaving_row : (ℕ → ℕ) → Kinds → Insn → ℕ → ℕ
leaving_row row k i guard = undecided_row row i i.op guard (decided k i)

-- More cells up to a row, and more edges, on which this is held, whose bits stand in no later row.
pub record LeaveTo (old new : List CellView) (ways ways2 : List Way) (h : RegisterCells) (last : (ℕ → ℕ) → ℕ) : Type 0 where
  pub grows : GrowsTo old new last
  pub more : List Way
  pub ways_are : ways2 ≡ ways ++ more
  pub held : All (λ e. e.held ≡ h) more
  pub bits : (row : ℕ → ℕ) → AreRows new row → All (λ e. row e.bit ≤ last row) more
