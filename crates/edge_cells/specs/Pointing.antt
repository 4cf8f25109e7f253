-- The pointers that are held where edges meet.
use Rattle.std.specs.Prelude.{ℕ, ◌≡◌, ◌<◌, Some, List, slice_index, get_or}
use Rattle.xdp_machine.specs.xdp_maps.declared.decl.MapDecl.{MapDecl}
use Rattle.xdp_machine.specs.State.{PacketIn}
use Rattle.kind_core.specs.declared.kind.Kind.{Kind}
use Rattle.kind_core.specs.declared.kind.Kinds.{Kinds}
use Rattle.cell_core.specs.Cells.{CellView, IsRun}
use Rattle.operator_cells.specs.Following.{IsFollowed}
use Rattle.operator_cells.specs.declared.held_cells.machine_cells.RegisterCells.{RegisterCells}
use Rattle.operator_cells.specs.declared.held_cells.way.Way.{Way}
use Rattle.operator_cells.specs.HeldCells.RegisterCells.{PointerView}
use Rattle.operator_cells.specs.HeldCells.Pointing.{Pointing, pointing_as, HoldsPointer, IsSamePointer}
use Rattle.edge_cells.specs.declared.part.Part.{Part}
use Rattle.edge_cells.specs.Meeting.{held_at, kind_at, first_on}

-- With a cell goes the number that goes with what the first edge that is on brings.
pub record Follows (new : List CellView) (here : List Way) (brings : (ℕ → ℕ) → Way → ℕ) (c : ℕ) : Type 0 where
  pub goes : (v u : ℕ → ℕ) (d : Way) → IsFollowed new v u → u c ≡ brings u (get_or here (first_on v here) d)

-- For any values of cells the pointer that is held at a part, by this kind, is that which the first edge that is on holds there.
pub record MeetsPointer (decls : List MapDecl) (new : List CellView) (ps qs : List PointerView) (here : List Way) (part : Part) (kind : Kind) (c : ℕ) : Type 0 where
  pub same : (packet : PacketIn) (v u : ℕ → ℕ) (d : Way) → IsRun packet new v → IsFollowed new v u → (y : Pointing) → pointing_as kind c ≡ Some y
      → (x : Pointing) × (pointing_as (kind_at part (get_or here (first_on v here) d).kinds) (held_at part (get_or here (first_on v here) d).held) ≡ Some x) × IsSamePointer decls v u ps qs x y

-- The same of n parts of one sort.
pub record MeetRowPoints (decls : List MapDecl) (new : List CellView) (ps qs : List PointerView) (here : List Way) (k : Kinds) (part : ℕ → Part) (n : ℕ) (held : List ℕ) : Type 0 where
  pub each : (i : ℕ) → i < n → MeetsPointer decls new ps qs here (part i) (kind_at (part i) k) (slice_index held i)

-- For any values of cells each pointer that is held is one that the first edge that is on holds.
abbrev pub JoinPoints : List MapDecl → List CellView → List PointerView → List PointerView → List Way → Kinds → RegisterCells → Type 0
JoinPoints decls new ps qs here k h =
    (packet : PacketIn) (v u : ℕ → ℕ) (d : Way) → IsRun packet new v → IsFollowed new v u → (y : Pointing) → HoldsPointer k h y
    → (x : Pointing) × HoldsPointer (get_or here (first_on v here) d).kinds (get_or here (first_on v here) d).held x × IsSamePointer decls v u ps qs x y
