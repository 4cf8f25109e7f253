-- The pointers that are held while a program is made node by node.
use Rattle.std.specs.Prelude.{ℕ, ◌≡◌, ◌<◌, ◌≤◌, true, List, length, All, Contains}
use Rattle.std.specs.List.{AllPairs}
use Rattle.xdp_machine.specs.xdp_maps.declared.decl.MapDecl.{MapDecl}
use Rattle.xdp_machine.specs.State.{PacketIn}
use Rattle.kind_core.specs.declared.kind.Kinds.{Kinds}
use Rattle.cell_core.specs.Cells.{CellView, IsRun, on}
use Rattle.cell_core.specs.Sites.{site_at}
use Rattle.operator_cells.specs.Following.{IsFollowed}
use Rattle.operator_cells.specs.declared.held_cells.machine_cells.RegisterCells.{RegisterCells}
use Rattle.operator_cells.specs.declared.held_cells.way.Way.{Way}
use Rattle.operator_cells.specs.HeldCells.RegisterCells.{PointerView, pointer_at}
use Rattle.operator_cells.specs.HeldCells.Pointing.{Pointing, HoldsPointer, IsSamePointer, AreLookedUp, is_access, IsLookupAccess, FoundsAre, RegisterCellsAre, PointerIs}
use Rattle.predicate_core.specs.StepCells.Stepping.{MadeView}

-- With these numbers pointers into map m, those that are held and those of accesses, have number n.
pub record PointInto (t : MadeView) (u : ℕ → ℕ) (m n : ℕ) : Type 0 where
  pub held : All (λ e. RegisterCellsAre u m n t.pointers e.kinds e.held) t.ways
  pub accesses : (j : ℕ) → j < length t.sites → is_access (site_at t.sites j).act ≡ true → (site_at t.sites j).map ≡ m → PointerIs t.sites u n j

-- For these values of cells, before node k: bits of edges are bits; those that are on and lead to this node or a later one lead to one, and
-- each pointer that they hold is that of a lookup; so is that of each access on the path.
pub record PointWith (decls : List MapDecl) (k : ℕ) (t : MadeView) (v u : ℕ → ℕ) : Type 0 where
  pub bits : All (λ e. v e.bit < 2) t.ways
  pub one : (e f : Way) → Contains t.ways e → Contains t.ways f → k ≤ e.to → k ≤ f.to → on (v e.bit) ≡ true → on (v f.bit) ≡ true → e.to ≡ f.to
  pub held : All (λ e. k ≤ e.to → on (v e.bit) ≡ true → AreLookedUp decls t.cells t.sites v u t.pointers e.kinds e.held) t.ways
  pub accesses : (j : ℕ) → j < length t.sites → is_access (site_at t.sites j).act ≡ true → on (v (site_at t.sites j).guard) ≡ true → IsLookupAccess decls t.cells t.sites v u j
  -- on the path or not
  pub into : (m n : ℕ) → FoundsAre t.cells t.sites u m n → PointInto t u m n

-- So it is for any values of the cells so far; and a node has one site at most.
pub record PointSoFar (decls : List MapDecl) (k : ℕ) (t : MadeView) : Type 0 where
  pub ascending : AllPairs (λ s r. s.node < r.node) t.sites
  pub each : (packet : PacketIn) (v u : ℕ → ℕ) → IsRun packet t.cells v → IsFollowed t.cells v u → PointWith decls k t v u

-- For these values of cells an edge that leads to node k is on, and holds each pointer that is held there.
pub record ComesAlong (decls : List MapDecl) (k : ℕ) (kinds : Kinds) (h : RegisterCells) (ps qs : List PointerView) (ways : List Way) (v u : ℕ → ℕ) : Type 0 where
  pub edge : Way
  pub among : Contains ways edge
  pub to : edge.to ≡ k
  pub is_on : on (v edge.bit) ≡ true
  pub holds : (y : Pointing) → HoldsPointer kinds h y → (x : Pointing) × HoldsPointer edge.kinds edge.held x × IsSamePointer decls v u ps qs x y

-- A pointer at a node was held on an edge, on or not: it leads into the same map, and the same number goes with its found cell.
pub record WasBrought (ps qs : List PointerView) (ways : List Way) (u : ℕ → ℕ) (y : Pointing) : Type 0 where
  pub edge : Way
  pub among : Contains ways edge
  pub was : Pointing
  pub holds : HoldsPointer edge.kinds edge.held was
  pub map : y.map ≡ was.map
  pub goes : u (pointer_at qs y.pointer).found ≡ u (pointer_at ps was.pointer).found

-- Before the step of node k: for any values of the cells its guard is a bit, and where it is on such an edge is; on or not, edges bring what is
-- held there.
abbrev pub ArrivePoints : List MapDecl → ℕ → Kinds → List CellView → List PointerView → List PointerView → List Way → ℕ → RegisterCells → Type 0
ArrivePoints decls k kinds cells ps qs ways guard h =
    (packet : PacketIn) (v u : ℕ → ℕ) → IsRun packet cells v → IsFollowed cells v u → All (λ e. v e.bit < 2) ways
    → (v guard < 2) × (on (v guard) ≡ true → ComesAlong decls k kinds h ps qs ways v u) × ((y : Pointing) → HoldsPointer kinds h y → WasBrought ps qs ways u y)
