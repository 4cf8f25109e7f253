-- From which lookups the pointers come that are held.
use Rattle.std.specs.Prelude.{ℕ, ◌≡◌, ◌≢◌, ◌<◌, ◌++◌, ◌⊎◌, Bool, true, false, Option, Some, None, List, [], ◌∷◌, length, slice_index, map as map_list, Contains, All}
use Rattle.cell_core.specs.bpf_isa.declared.instruction.Insn.{Insn}
use Rattle.cell_core.specs.xdp_maps.declared.decl.MapDecl.{MapDecl}
use Rattle.cell_core.specs.xdp_machine.State.{PacketIn}
use Rattle.kind_core.specs.declared.kind.Kind.{Kind}
use Rattle.kind_core.specs.declared.kind.Kind.TheVariants.{Maybe, Entry}
use Rattle.kind_core.specs.declared.kind.Kinds.{Kinds}
use Rattle.kind_core.specs.Kinds.{key_bytes, is_hash}
use Rattle.cell_core.specs.declared.site.Act.{Act}
use Rattle.cell_core.specs.declared.site.Act.TheVariants as act
use Rattle.cell_core.specs.declared.operator.Operator.TheVariants.{Found}
pub use Rattle.cell_core.specs.Acts.{is_access}
use Rattle.cell_core.specs.Cells.{CellView, IsRun, cell_at, on}
use Rattle.cell_core.specs.Sites.{SiteView, ProgramView, site_at, bytes_of}
use Rattle.operator_cells.specs.Following.{IsFollowed}
use Rattle.row_rules.specs.declared.place_rows.location.Location.{Location}
use Rattle.row_rules.specs.PlaceRows.Locations.{location_at}
use Rattle.operator_cells.specs.declared.held_cells.machine_cells.RegisterCells.{RegisterCells}
use Rattle.operator_cells.specs.declared.held_cells.way.Way.{Way}
use Rattle.operator_cells.specs.HeldCells.RegisterCells.{PointerView, pointer_at, key_of}
use Rattle.operator_cells.specs.HeldCells.Rows.{kind_by, number_by, map_used}
use Rattle.operator_cells.specs.HeldCells.Reading.{OperationReads}

-- ---- the pointers that are held

-- a pointer into a map, by its number: what the lookup of a node answered, which may be null, or a place in an entry
pub record Pointing : Type 0 where
  pub map : ℕ
  pub node : Option ℕ
  pub pointer : ℕ

abbrev pub pointing_as : Kind → ℕ → Option Pointing
pointing_as (Maybe q n) c = Some (record { map = q; node = Some n; pointer = c })
pointing_as (Entry q o) c = Some (record { map = q; node = None; pointer = c })
pointing_as k c = None

-- the pointer at a location, and by the location's number
abbrev pub pointing_by : Kinds → RegisterCells → Location → Option Pointing
pointing_by k h l = pointing_as (kind_by k l) (number_by h l)

abbrev pub pointing_at : Kinds → RegisterCells → ℕ → Option Pointing
pointing_at k h place = pointing_by k h (location_at place)

-- this one is held somewhere
abbrev pub HoldsPointer : Kinds → RegisterCells → Pointing → Type 0
HoldsPointer k h x = (place : ℕ) × (pointing_at k h place ≡ Some x)

-- Each pointer that is held after an instruction was held before.
abbrev pub KeepPointers : Kinds → RegisterCells → Kinds → RegisterCells → Type 0
KeepPointers k h after next = (x : Pointing) → HoldsPointer after next x → HoldsPointer k h x

-- ---- an operation on a map

-- whether it may bring a key or take one away
abbrev pub changes_keys : Act → Bool
changes_keys act.Update = true
changes_keys act.Delete = true
changes_keys a = false

-- The last operand of an access is the found cell of its pointer: a store has its number before it, an atomic change its source and what it
-- compares with.
abbrev pub IsThrough : Act → List ℕ → ℕ → Type 0
IsThrough (act.Load at size) operands c = operands ≡ c ∷ []
IsThrough (act.Store at size) operands c = (x : ℕ) × (operands ≡ x ∷ c ∷ [])
IsThrough (act.Atomic at a) operands c = (x : ℕ) × (y : ℕ) × (operands ≡ x ∷ y ∷ c ∷ [])
IsThrough a operands c = ⊥

-- An access has the key and the found cell of a pointer to an entry that is held.
pub record GoesThrough (k : Kinds) (h : RegisterCells) (ps : List PointerView) (s : SiteView) : Type 0 where
  pub pointer : ℕ
  pub holds : HoldsPointer k h (record { map = s.map; node = None; pointer = pointer })
  pub key : s.key ≡ (pointer_at ps pointer).key
  pub through : IsThrough s.act s.operands (pointer_at ps pointer).found

-- Of the cells this is the only one that tells whether the key of site j is there.
pub record IsFoundOf (cells : List CellView) (j c : ℕ) : Type 0 where
  pub there : c < length cells
  pub is : (cell_at cells c).op ≡ Found j
  pub only : (d : ℕ) → d < length cells → (cell_at cells d).op ≡ Found j → d ≡ c

-- A lookup brings a pointer: its key, and a new cell that tells whether it is there, where no cell before it did.
pub record LookupPoints (k : Kinds) (h : RegisterCells) (after : Kinds) (next : RegisterCells) (old new : List CellView) (ps qs : List PointerView) (j : ℕ) (s : SiteView) : Type 0 where
  pub found : ℕ
  pub is_found : ((d : ℕ) → d < length old → (cell_at old d).op ≢ Found j) → IsFoundOf new j found
  pub pointers_are : qs ≡ ps ++ (record { found = found; key = s.key }) ∷ []
  pub held : (x : Pointing) → HoldsPointer after next x → (x ≡ record { map = s.map; node = Some s.node; pointer = length ps }) ⊎ HoldsPointer k h x

-- An update or a delete leaves no pointer into its map, if that is a hash.
pub record ChangePoints (decls : List MapDecl) (k : Kinds) (h : RegisterCells) (after : Kinds) (next : RegisterCells) (ps qs : List PointerView) (s : SiteView) : Type 0 where
  pub pointers_are : qs ≡ ps
  pub kept : KeepPointers k h after next
  pub none : is_hash decls s.map ≡ true → (x : Pointing) → HoldsPointer after next x → x.map ≢ s.map

pub record AccessPoints (k : Kinds) (h : RegisterCells) (after : Kinds) (next : RegisterCells) (ps qs : List PointerView) (s : SiteView) : Type 0 where
  pub pointers_are : qs ≡ ps
  pub kept : KeepPointers k h after next
  pub through : GoesThrough k h ps s

abbrev pub PointsAs : Act → List MapDecl → Kinds → RegisterCells → Kinds → RegisterCells → List CellView → List CellView → List PointerView → List PointerView → ℕ → SiteView → Type 0
PointsAs act.Lookup decls k h after next old new ps qs j s = LookupPoints k h after next old new ps qs j s
PointsAs act.Update decls k h after next old new ps qs j s = ChangePoints decls k h after next ps qs s
PointsAs act.Delete decls k h after next old new ps qs j s = ChangePoints decls k h after next ps qs s
PointsAs a decls k h after next old new ps qs j s = AccessPoints k h after next ps qs s

-- The site of an operation, before which this cell stood for what is pending of its map; the cells that read it, and the pointers that are held
-- after it.
pub record OperationPoints (decls : List MapDecl) (i : Insn) (pending : ℕ) (k : Kinds) (h : RegisterCells) (after : Kinds) (next : RegisterCells) (old new : List CellView) (ps qs : List PointerView) (sites sites2 : List SiteView) : Type 0 where
  pub site : SiteView
  pub sites_are : sites2 ≡ sites ++ site ∷ []
  pub reads : OperationReads decls (map_used k i i.op) pending old new (length sites) site
  pub points : PointsAs site.act decls k h after next old new ps qs (length sites) site

-- The same of any instruction, before which these cells stood for what is pending of maps: one that operates on no map adds no site and no
-- pointer.
pub record PlainPoints (k : Kinds) (h : RegisterCells) (after : Kinds) (next : RegisterCells) (ps qs : List PointerView) (sites sites2 : List SiteView) : Type 0 where
  pub pointers_are : qs ≡ ps
  pub sites_are : sites2 ≡ sites
  pub kept : KeepPointers k h after next

abbrev pub InstructionPoints : List MapDecl → Insn → List ℕ → Kinds → RegisterCells → Kinds → RegisterCells → List CellView → List CellView → List PointerView → List PointerView → List SiteView → List SiteView → Type 0
InstructionPoints decls i pending k h after next old new ps qs sites sites2 =
    PlainPoints k h after next ps qs sites sites2
    ⊎ ((c : ℕ) × ((q : ℕ) → map_used k i i.op ≡ Some q → q < length pending → c ≡ slice_index pending q) × OperationPoints decls i c k h after next old new ps qs sites sites2)

-- ---- where edges meet and leave

-- For these values of cells one pointer is what another is: it leads into the same map, for the same answer of a lookup, and has the same
-- found bit, key, and number that goes with it.
pub record IsSamePointer (decls : List MapDecl) (v u : ℕ → ℕ) (ps qs : List PointerView) (x y : Pointing) : Type 0 where
  pub map : y.map ≡ x.map
  pub node : y.node ≡ x.node
  pub found : v (pointer_at qs y.pointer).found ≡ v (pointer_at ps x.pointer).found
  pub goes : u (pointer_at qs y.pointer).found ≡ u (pointer_at ps x.pointer).found
  pub key : key_of decls v y.map (pointer_at qs y.pointer) ≡ key_of decls v x.map (pointer_at ps x.pointer)

-- What the lookup of a node answered has one found bit at all places.
abbrev pub AnswerAlike : (ℕ → ℕ) → List PointerView → Kinds → RegisterCells → Type 0
AnswerAlike v ps k h =
    (x y : Pointing) (n : ℕ) → HoldsPointer k h x → HoldsPointer k h y → x.node ≡ Some n → y.node ≡ Some n
    → v (pointer_at ps x.pointer).found ≡ v (pointer_at ps y.pointer).found

-- A pointer on an edge that is on was held at the node that it leaves; or it was the answer of a lookup, and the key was found.
abbrev pub WasHeld : (ℕ → ℕ) → List PointerView → Kinds → RegisterCells → Pointing → Type 0
WasHeld v ps k h x =
    HoldsPointer k h x
    ⊎ ((n : ℕ) × HoldsPointer k h (record { map = x.map; node = Some n; pointer = x.pointer }) × (x.node ≡ None) × (on (v (pointer_at ps x.pointer).found) ≡ true))

-- On an edge, on or not, a pointer was held at the node that it leaves, by this kind or as the answer of a lookup.
abbrev pub CameAlong : Kinds → RegisterCells → Pointing → Type 0
CameAlong k h x = (node : Option ℕ) × HoldsPointer k h (record { map = x.map; node = node; pointer = x.pointer })

-- The edges that leave a jump, for any values of cells: they have bits, are on only where the guard is, and two that are on lead to one node;
-- what is held on one that is on was held at the node.
pub record EdgesPoint (v : ℕ → ℕ) (ps : List PointerView) (k : Kinds) (h : RegisterCells) (guard : ℕ) (more : List Way) : Type 0 where
  pub bits : All (λ e. v e.bit < 2) more
  pub guarded : All (λ e. on (v e.bit) ≡ true → on (v guard) ≡ true) more
  pub one : (e f : Way) → Contains more e → Contains more f → on (v e.bit) ≡ true → on (v f.bit) ≡ true → e.to ≡ f.to
  pub held : AnswerAlike v ps k h → All (λ e. on (v e.bit) ≡ true → (x : Pointing) → HoldsPointer e.kinds e.held x → WasHeld v ps k h x) more
  pub along : All (λ e. (x : Pointing) → HoldsPointer e.kinds e.held x → CameAlong k h x) more

abbrev pub LeavePoints : List CellView → List PointerView → Kinds → RegisterCells → ℕ → List Way → List Way → Type 0
LeavePoints new ps k h guard ways ways2 =
    (more : List Way) × (ways2 ≡ ways ++ more) × ((packet : PacketIn) (v : ℕ → ℕ) → IsRun packet new v → v guard < 2 → EdgesPoint v ps k h guard more)

-- ---- what accesses come from

-- For these values of cells a pointer is that of a lookup on the path, that of this node where one is named; since then no operation on the
-- path brought a key of its map or took one away, if that is a hash; and a place in an entry was found.
pub record IsLookedUp (decls : List MapDecl) (cells : List CellView) (sites : List SiteView) (v u : ℕ → ℕ) (ps : List PointerView) (x : Pointing) : Type 0 where
  pub lookup : ℕ
  pub there : lookup < length sites
  pub looks_up : (site_at sites lookup).act ≡ act.Lookup
  pub map : (site_at sites lookup).map ≡ x.map
  pub guard : on (v (site_at sites lookup).guard) ≡ true
  pub key : bytes_of (key_bytes decls x.map) (map_list v (site_at sites lookup).key) ≡ key_of decls v x.map (pointer_at ps x.pointer)
  pub cell : ℕ
  pub is_found : IsFoundOf cells lookup cell
  pub found : v (pointer_at ps x.pointer).found ≡ v cell
  pub goes : u (pointer_at ps x.pointer).found ≡ u cell
  pub some : x.node ≡ None → on (v cell) ≡ true
  pub node : (n : ℕ) → x.node ≡ Some n → (site_at sites lookup).node ≡ n
  pub between : (i : ℕ) → lookup < i → i < length sites → (site_at sites i).map ≡ x.map → on (v (site_at sites i).guard) ≡ true → is_hash decls x.map ≡ true → changes_keys (site_at sites i).act ≡ false

-- so of each that is held
abbrev pub AreLookedUp : List MapDecl → List CellView → List SiteView → (ℕ → ℕ) → (ℕ → ℕ) → List PointerView → Kinds → RegisterCells → Type 0
AreLookedUp decls cells sites v u ps k h = (x : Pointing) → HoldsPointer k h x → IsLookedUp decls cells sites v u ps x

-- An access through the pointer of an earlier lookup on the path that found the key: it has its key and what goes with its found cell, and no
-- operation on the path between the two brings a key of that map or takes one away, if that is a hash.
pub record IsLookupAccess (decls : List MapDecl) (cells : List CellView) (sites : List SiteView) (v u : ℕ → ℕ) (j : ℕ) : Type 0 where
  pub lookup : ℕ
  pub before : lookup < j
  pub looks_up : (site_at sites lookup).act ≡ act.Lookup
  pub map : (site_at sites lookup).map ≡ (site_at sites j).map
  pub guard : on (v (site_at sites lookup).guard) ≡ true
  pub key : bytes_of (key_bytes decls (site_at sites j).map) (map_list v (site_at sites lookup).key) ≡ bytes_of (key_bytes decls (site_at sites j).map) (map_list v (site_at sites j).key)
  pub cell : ℕ
  pub is_found : IsFoundOf cells lookup cell
  pub some : on (v cell) ≡ true
  pub operand : ℕ
  pub through : IsThrough (site_at sites j).act (site_at sites j).operands operand
  pub goes : u operand ≡ u cell
  pub between :
      (i : ℕ) → lookup < i → i < j → (site_at sites i).map ≡ (site_at sites j).map → on (v (site_at sites i).guard) ≡ true → is_hash decls (site_at sites j).map ≡ true
      → changes_keys (site_at sites i).act ≡ false

-- So is each access on the path, whatever values stand for reads.
abbrev pub AccessesLookUp : List MapDecl → ProgramView → Type 0
AccessesLookUp decls p =
    (packet : PacketIn) (v u : ℕ → ℕ) → IsRun packet p.cells v → IsFollowed p.cells v u → (j : ℕ) → j < length p.sites → is_access (site_at p.sites j).act ≡ true
    → on (v (site_at p.sites j).guard) ≡ true → IsLookupAccess decls p.cells p.sites v u j

-- ---- into which maps pointers lead

-- These numbers are equal to n at each cell that tells whether the key of a site of map m is there.
abbrev pub FoundsAre : List CellView → List SiteView → (ℕ → ℕ) → ℕ → ℕ → Type 0
FoundsAre cells sites u m n = (c j : ℕ) → c < length cells → (cell_at cells c).op ≡ Found j → (site_at sites j).map ≡ m → u c ≡ n

-- and at the found cell of each pointer into this map that is held
abbrev pub RegisterCellsAre : (ℕ → ℕ) → ℕ → ℕ → List PointerView → Kinds → RegisterCells → Type 0
RegisterCellsAre u m n ps k h = (x : Pointing) → HoldsPointer k h x → x.map ≡ m → u (pointer_at ps x.pointer).found ≡ n

-- and at the pointer of an access
abbrev pub PointerIs : List SiteView → (ℕ → ℕ) → ℕ → ℕ → Type 0
PointerIs sites u n j = (c : ℕ) × IsThrough (site_at sites j).act (site_at sites j).operands c × (u c ≡ n)

-- An access goes through a pointer into its own map, on the path or not, whatever values stand for reads: a number that goes with all found cells
-- of the map goes with the pointer too.
abbrev pub AccessesStay : ProgramView → Type 0
AccessesStay p =
    (packet : PacketIn) (v u : ℕ → ℕ) → IsRun packet p.cells v → IsFollowed p.cells v u → (m n : ℕ) → FoundsAre p.cells p.sites u m n
    → (j : ℕ) → j < length p.sites → is_access (site_at p.sites j).act ≡ true → (site_at p.sites j).map ≡ m → PointerIs p.sites u n j
