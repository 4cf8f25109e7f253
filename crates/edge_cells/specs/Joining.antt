-- Where edges meet at a node.
use Rattle.std.specs.Prelude.{ℕ, ◌≡◌, ◌<◌, Bool, List, length, get_or, All, Contains}
use Rattle.std.specs.List.{list_any}
use Rattle.xdp_machine.specs.xdp_maps.declared.decl.MapDecl.{MapDecl}
use Rattle.xdp_machine.specs.State.{PacketIn, Machine}
use Rattle.kind_core.specs.declared.kind.Kinds.{Kinds}
use Rattle.cell_core.specs.Cells.{CellView, IsRun, on, bit}
use Rattle.operator_cells.specs.Making.{Grows}
use Rattle.operator_cells.specs.declared.held_cells.machine_cells.RegisterCells.{RegisterCells}
use Rattle.operator_cells.specs.declared.held_cells.way.Way.{Way}
use Rattle.operator_cells.specs.declared.held_cells.way.Exit.{Exit}
use Rattle.operator_cells.specs.HeldCells.Paths.{GraphView, Stage, node_at}
use Rattle.operator_cells.specs.HeldCells.RegisterCells.{PointerView, AreInside}
use Rattle.operator_cells.specs.HeldCells.Carrying.{IsKnown}
use Rattle.operator_cells.specs.HeldCells.Steps.{IsGood, IsHere}
use Rattle.edge_cells.specs.Meeting.{first_on, Extends}

-- whether one of some edges is on
abbrev pub any_on : (ℕ → ℕ) → List Way → Bool
any_on v here = list_any (λ e. on (v e.bit)) here

-- More cells, and one that is 1 where one of the edges is on.
pub record Guards (old new : List CellView) (here : List Way) (guard : ℕ) : Type 0 where
  pub grows : Grows old new
  pub there : guard < length new
  pub value : (packet : PacketIn) (v : ℕ → ℕ) → IsRun packet new v → All (λ e. v e.bit < 2) here → v guard ≡ bit (any_on v here)

-- Where edges meet: more cells and pointers, the guard, which is 1 where an edge is on, and what is held: where what the first edge that
-- is on holds is a machine's, so is this.
pub record Joins (decls : List MapDecl) (old new : List CellView) (ps qs : List PointerView) (here : List Way) (k : Kinds) (guard : ℕ) (h : RegisterCells) : Type 0 where
  pub guards : Guards old new here guard
  pub extends : Extends ps qs
  pub inside : AreInside decls (length new) qs h k
  pub known : (packet : PacketIn) (v : ℕ → ℕ) (node : ℕ) (d : Way) (m : Machine) → IsRun packet new v
      → IsKnown decls packet v ps node (get_or here (first_on v here) d).kinds (get_or here (first_on v here) d).held m → IsKnown decls packet v qs node k h m

-- these are exactly the edges that lead to a node
pub record LeadTo (k : ℕ) (ways here : List Way) : Type 0 where
  pub to : All (λ e. e.to ≡ k) here
  pub among : (e : Way) → Contains here e → Contains ways e
  pub all : (e : Way) → Contains ways e → e.to ≡ k → Contains here e

-- Where things are good before a node, its guard is 1 exactly where the run stands there, and what is held is what its machine holds.
abbrev pub HereIsRight : Type 0
HereIsRight =
    (g : GraphView) (packet : PacketIn) (v : ℕ → ℕ) (ps qs : List PointerView) (k : ℕ) (old new : List CellView) (ways here : List Way) (exits : List Exit) (guard : ℕ) (h : RegisterCells) (s : Stage)
    → Joins g.decls old new ps qs here (node_at g.nodes k).kinds guard h → LeadTo k ways here → IsRun packet new v → IsGood g packet v ps k ways exits s
    → IsHere g packet v qs k guard h s
