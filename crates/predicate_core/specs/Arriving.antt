-- The edges that lead to a node, as one.
use Rattle.std.specs.Prelude.{ℕ, ◌≡◌, ◌<◌, ◌≤◌, List, length}
use Rattle.xdp_machine.specs.xdp_maps.declared.decl.MapDecl.{MapDecl}
use Rattle.xdp_machine.specs.State.{PacketIn}
use Rattle.kind_core.specs.declared.kind.Kinds.{Kinds}
use Rattle.cell_core.specs.Cells.{CellView, IsRun}
use Rattle.operator_cells.specs.Making.{Grows}
use Rattle.operator_cells.specs.declared.held_cells.machine_cells.RegisterCells.{RegisterCells}
use Rattle.operator_cells.specs.declared.held_cells.way.Way.{Way}
use Rattle.operator_cells.specs.HeldCells.Paths.{GraphView, node_at}
use Rattle.operator_cells.specs.HeldCells.RegisterCells.{PointerView}
use Rattle.predicate_core.specs.Making.{Making, Arrives}

-- More cells, and a bit among them that a node makes itself.
pub record IsOwn (old new : List CellView) (first bit c : ℕ) : Type 0 where
  pub grows : Grows old new
  pub own : first ≤ c
  pub there : c < length new
  pub value : (packet : PacketIn) (v : ℕ → ℕ) → IsRun packet new v → v bit < 2 → v c ≡ v bit

-- What has been made arrives at a node of a graph where this is known.
abbrev pub ArrivesAt : List MapDecl → ℕ → Kinds → List CellView → List PointerView → List Way → List CellView → List PointerView → ℕ → RegisterCells → Type 0
ArrivesAt decls node kinds cells pointers ways cells2 pointers2 guard h =
    (g : GraphView) (t : Making) → g.decls ≡ decls → (node_at g.nodes node).kinds ≡ kinds → t.cells ≡ cells → t.pointers ≡ pointers → t.ways ≡ ways → Arrives g node t cells2 pointers2 guard h
