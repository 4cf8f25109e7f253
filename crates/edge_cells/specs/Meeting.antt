-- What edges bring to one part of a machine.
use Rattle.std.specs.Prelude.{ℕ, Bool, true, false, zero, suc, ◌≡◌, ◌<◌, ◌≤◌, ◌++◌, if◌then◌else◌, Option, Some, None, List, [], ◌∷◌, length, slice_index, get_or, All}
use Rattle.std.specs.Int.{div_ceil}
use Rattle.xdp_machine.specs.xdp_maps.declared.decl.MapDecl.{MapDecl}
use Rattle.xdp_machine.specs.State.{PacketIn}
use Rattle.xdp_machine.specs.Values.{Value}
use Rattle.xdp_machine.specs.Values as is
use Rattle.kind_core.specs.declared.number.Number.{Number}
use Rattle.kind_core.specs.declared.number.Number.TheVariants.{Known, Between}
use Rattle.kind_core.specs.declared.kind.Kind.{Kind}
use Rattle.kind_core.specs.declared.kind.Kind.TheVariants.{Unset, Num, Maybe, Entry}
use Rattle.kind_core.specs.declared.kind.Kinds.{Kinds}
use Rattle.kind_core.specs.NumberBounds.{any_number}
use Rattle.cell_core.specs.Cells.{CellView, IsRun, on}
use Rattle.operator_cells.specs.Making.{Grows}
use Rattle.operator_cells.specs.declared.held_cells.machine_cells.RegisterCells.{RegisterCells}
use Rattle.operator_cells.specs.declared.held_cells.way.Way.{Way}
use Rattle.operator_cells.specs.HeldCells.RegisterCells.{PointerView, pointer_at, Holds, Counts, AreInside, number_of, IsThere}
use Rattle.edge_cells.specs.declared.part.Part.{Part}
use Rattle.edge_cells.specs.declared.part.Part.TheVariants.{Register, Slot, Byte, Target}

abbrev pub IsPart : Part → Type 0
IsPart (Register r) = r ≤ 10
IsPart (Slot s) = s < 64
IsPart (Byte i) = i < 256
IsPart Target = Unit {0}

-- the cell of a part, or the number of its pointer
abbrev pub held_at : Part → RegisterCells → ℕ
held_at (Register r) h = slice_index h.registers r
held_at (Slot s) h = slice_index h.slots s
held_at (Byte i) h = slice_index h.window i
held_at Target h = h.target

-- its kind: a byte of the packet and the target of a redirect are numbers that are not known
abbrev pub kind_at : Part → Kinds → Kind
kind_at (Register r) k = get_or k.registers r Unset
kind_at (Slot s) k = get_or k.slots s Unset
kind_at (Byte i) k = Num (any_number 64)
kind_at Target k = Num (any_number 64)

-- the number of the first edge that is on, or of the last one
abbrev pub first_on : (ℕ → ℕ) → List Way → ℕ
first_on v [] = 0
first_on v (e ∷ []) = 0
first_on v (e ∷ f ∷ more) = if on (v e.bit) then 0 else suc (first_on v (f ∷ more))

-- More cells, and one whose value in every run is the number that the first edge that is on brings.
pub record Picks (old new : List CellView) (here : List Way) (brings : (ℕ → ℕ) → Way → ℕ) (c : ℕ) : Type 0 where
  pub grows : Grows old new
  pub there : c < length new
  pub value : (packet : PacketIn) (v : ℕ → ℕ) (d : Way) → IsRun packet new v → v c ≡ brings v (get_or here (first_on v here) d)

-- what is known of a number
abbrev pub number_in : Kind → Number
number_in (Num n) = n
number_in k = any_number 64

-- the number that an edge brings to a part
abbrev pub number_brought : Part → (ℕ → ℕ) → Way → ℕ
number_brought part v e = number_of v (number_in (kind_at part e.kinds)) (held_at part e.held)

abbrev pub BringNumbers : ℕ → List Way → Part → Type 0
BringNumbers n here part = All (λ e. (e.bit < n) × IsThere n (number_in (kind_at part e.kinds)) (held_at part e.held)) here

-- the cells of a pointer: the bit that tells whether it was found, and then the words of its key
abbrev pub cell_in : PointerView → ℕ → ℕ
cell_in p zero = p.found
cell_in p (suc j) = slice_index p.key j

-- the value of such a cell of the pointer that an edge brings to a part
abbrev pub cell_brought : List PointerView → Part → ℕ → (ℕ → ℕ) → Way → ℕ
cell_brought ps part j v e = v (cell_in (pointer_at ps (held_at part e.held)) j)

abbrev pub BringCells : ℕ → List PointerView → List Way → Part → ℕ → Type 0
BringCells n ps here part j = All (λ e. (e.bit < n) × (held_at part e.held < length ps) × (j ≤ length (pointer_at ps (held_at part e.held)).key) × (cell_in (pointer_at ps (held_at part e.held)) j < n)) here

-- The same of all words of a key.
pub record PickWords (old new : List CellView) (ps : List PointerView) (here : List Way) (part : Part) (n : ℕ) (key : List ℕ) : Type 0 where
  pub grows : Grows old new
  pub count : length key ≡ n
  pub words : (j : ℕ) → j < n → Picks old new here (cell_brought ps part (suc j)) (slice_index key j)

-- One pointer more, with so many words, whose cells are those of the pointers that the edges bring.
pub record PicksPointer (old new : List CellView) (ps qs : List PointerView) (here : List Way) (part : Part) (n : ℕ) (c : ℕ) : Type 0 where
  pub pointer : PointerView
  pub at : c ≡ length ps
  pub is : qs ≡ ps ++ pointer ∷ []
  pub found : Picks old new here (cell_brought ps part 0) pointer.found
  pub key : PickWords old new ps here part n pointer.key

-- how many words a key of so many bytes has
abbrev pub words_of : ℕ → ℕ
words_of n = div_ceil n 8

-- whether a kind is a number that is known
abbrev pub is_known : Kind → Bool
is_known (Num (Known n)) = true
is_known k = false

-- whether it is one that is not known
abbrev pub is_unknown : Kind → Bool
is_unknown (Num (Between lo hi)) = true
is_unknown k = false

-- the map that a pointer to an entry leads into
abbrev pub map_of : Kind → Option ℕ
map_of (Maybe q n) = Some q
map_of (Entry q o) = Some q
map_of k = None

-- pointers, and more of them
pub record Extends (ps qs : List PointerView) : Type 0 where
  pub more : List PointerView
  pub is : qs ≡ ps ++ more

-- edges whose cells and pointers are there
abbrev pub AreWays : List MapDecl → List CellView → List PointerView → List Way → Type 0
AreWays decls cells ps here = All (λ e. (e.bit < length cells) × AreInside decls (length cells) ps e.held e.kinds) here

-- a number that is known is the value
abbrev pub IsSaid : Kind → Value → Type 0
IsSaid (Num (Known n)) x = x ≡ is.Number n
IsSaid k x = Unit {0}

-- Number c holds at a part, by this kind, what the first edge that is on holds there; also once there are more pointers.
pub record Meets (decls : List MapDecl) (cells : List CellView) (ps : List PointerView) (here : List Way) (part : Part) (kind : Kind) (c : ℕ) : Type 0 where
  pub counts : Counts decls (length cells) ps kind c
  pub holds : (packet : PacketIn) (v : ℕ → ℕ) (qs : List PointerView) (d : Way) (x : Value) → IsRun packet cells v → Extends ps qs
      → IsSaid (kind_at part (get_or here (first_on v here) d).kinds) x → Holds decls v qs (kind_at part (get_or here (first_on v here) d).kinds) (held_at part (get_or here (first_on v here) d).held) x → Holds decls v qs kind c x

-- The same, and nothing but cells and pointers has been added.
pub record MeetsMore (decls : List MapDecl) (old new : List CellView) (ps qs : List PointerView) (here : List Way) (part : Part) (kind : Kind) (c : ℕ) : Type 0 where
  pub grows : Grows old new
  pub extends : Extends ps qs
  pub meets : Meets decls new qs here part kind c

-- The same of n parts of one sort.
pub record MeetRow (decls : List MapDecl) (old new : List CellView) (ps qs : List PointerView) (here : List Way) (k : Kinds) (part : ℕ → Part) (n : ℕ) (held : List ℕ) : Type 0 where
  pub grows : Grows old new
  pub extends : Extends ps qs
  pub each : (i : ℕ) → i < n → Meets decls new qs here (part i) (kind_at (part i) k) (slice_index held i)
