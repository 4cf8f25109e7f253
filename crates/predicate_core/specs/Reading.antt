-- The reads of a program while it is made node by node, and for what the cells stand that are pending of its maps.
use Rattle.std.specs.Prelude.{ℕ, ◌≡◌, ◌<◌, ◌≤◌, true, List, [], length, slice_index, get_or}
use Rattle.xdp_machine.specs.xdp_maps.declared.decl.MapDecl.{MapDecl}
use Rattle.xdp_machine.specs.State.{PacketIn}
use Rattle.cell_core.specs.Cells.{CellView, IsRun, on}
use Rattle.cell_core.specs.Sites.{ProgramView, site_at, records}
use Rattle.operator_cells.specs.declared.held_cells.way.Way.{Way}
use Rattle.operator_cells.specs.HeldCells.Reading.{ReadsAreMade, AreRanks, BelongsTo, ReadsWait}
use Rattle.predicate_core.specs.StepCells.Stepping.{MadeView}

-- what has been made, as a program without an answer
abbrev pub reading_of : MadeView → ProgramView
reading_of t = record { cells = t.cells; nodes = []; sites = t.sites; verdict = 0; target = 0; frame = [] }

-- For these values of cells and in these ranks: of each site on the path that may write, no cell that it takes, and none that reads it, is higher than
-- the one that stands for what is pending of its map.
abbrev pub ArePending : MadeView → (ℕ → ℕ) → (ℕ → ℕ) → List ℕ → Type 0
ArePending t v rank pending =
    (i x : ℕ) → i < length t.sites → records (site_at t.sites i).act ≡ true → on (v (site_at t.sites i).guard) ≡ true → BelongsTo t.cells i (site_at t.sites i) x
    → rank x ≤ rank (slice_index pending (site_at t.sites i).map)

-- The reads of the nodes below k are made, and wait; and on each edge that is on, and leads to this node or a later one, what has been written is
-- pending by the cells beside it.
pub record ReadSoFar (decls : List MapDecl) (k : ℕ) (t : MadeView) (beside : List (List ℕ)) : Type 0 where
  pub made : ReadsAreMade decls (reading_of t)
  pub waits : ReadsWait (reading_of t)
  pub pending : (packet : PacketIn) (v rank : ℕ → ℕ) (n : ℕ) (d : Way) → IsRun packet t.cells v → AreRanks t.cells rank → n < length t.ways → k ≤ (get_or t.ways n d).to
      → on (v (get_or t.ways n d).bit) ≡ true → ArePending t v rank (get_or beside n [])

-- Of each map the cell of what is pending at node k is no lower than those beside the edges that lead there.
abbrev pub PendingMeets : ℕ → List CellView → List Way → List (List ℕ) → List ℕ → Type 0
PendingMeets k cells ways beside pending =
    (rank : ℕ → ℕ) (n : ℕ) (d : Way) (q : ℕ) → AreRanks cells rank → n < length ways → (get_or ways n d).to ≡ k → q < length pending → rank (slice_index (get_or beside n []) q) ≤ rank (slice_index pending q)
