-- The cells of what a machine holds at the start.
use Rattle.std.specs.Prelude.{ℕ, ◌≡◌, ◌<◌, ◌≤◌, List, [], ◌∷◌, length, slice_index, All}
use Rattle.xdp_machine.specs.State.{PacketIn}
use Rattle.kind_core.specs.declared.kind.Offsets.TheVariants.{Fixed}
use Rattle.kind_core.specs.Kinds as kinds
use Rattle.kind_core.specs.Kinds.{value_bytes}
use Rattle.cell_core.specs.Cells.{CellView, IsRun}
use Rattle.operator_cells.specs.Making.{Grows}
use Rattle.operator_cells.specs.declared.held_cells.way.Way.{Way}
use Rattle.operator_cells.specs.HeldCells.Paths.{GraphView, node_at}
use Rattle.predicate_core.specs.Buildable.{AddsNoRow}
use Rattle.predicate_core.specs.Making.{IsSoFar}

-- these cells are the first n of the first 256 bytes of the packet
pub record HaveBytes (cells : List CellView) (n : ℕ) (window : List ℕ) : Type 0 where
  pub there : (i : ℕ) → i < n → slice_index window i < length cells
  pub value : (packet : PacketIn) (v : ℕ → ℕ) (i : ℕ) → i < n → IsRun packet cells v → All (λ b. b < 256) packet.frame → v (slice_index window i) ≡ slice_index packet.frame i

pub record AreBytes (old new : List CellView) (n : ℕ) (window : List ℕ) : Type 0 where
  pub grows : Grows old new
  pub no_row : AddsNoRow old new
  pub bytes : HaveBytes new n window

-- The edge to the first node, which is on: registers and slots hold nothing but what their kinds say, and no redirect has been.
pub record Opens (old new : List CellView) (e : Way) : Type 0 where
  pub grows : Grows old new
  pub no_row : AddsNoRow old new
  pub to_first : e.to ≡ 0
  pub kinds_are : e.kinds ≡ kinds.start Fixed
  pub bit_there : e.bit < length new
  pub bit : (packet : PacketIn) (v : ℕ → ℕ) → IsRun packet new v → v e.bit ≡ 1
  pub bytes : HaveBytes new 256 e.held.window
  pub target_there : e.held.target < length new
  pub target : (packet : PacketIn) (v : ℕ → ℕ) → IsRun packet new v → v e.held.target ≡ 0

-- With the edge to the first node alone the cells are right as far as it.
abbrev pub OpensFollow : Type 0
OpensFollow =
    (g : GraphView) (cells : List CellView) (e : Way) → Opens [] cells e → 0 < length g.nodes → (node_at g.nodes 0).place ≡ 0 → ((q : ℕ) → value_bytes g.decls q ≤ 64)
    → IsSoFar g 0 [] (record { cells = cells; pointers = []; sites = []; ways = e ∷ []; exits = []; nodes = [] })
