-- The cells of a row in a packet that has taken it in.
use Rattle.std.specs.Prelude.{◌≡◌, ◌≢◌, ℕ, ◌<◌, ◌≤◌, ◌⊎◌, Some, length}
use Rattle.cell_core.specs.xdp_machine.State.{PacketIn}
use Rattle.cell_core.specs.Cells.{cell_at, bits_from, site_in}
use Rattle.cell_core.specs.Formed.{AreFormed}
use Rattle.cell_core.specs.Sites.{ProgramView, site_at}
use Rattle.hazard_core.specs.Tables.{TableState}
use Rattle.hazard_core.specs.StageValues.{StageValues, stage_value, pointer_in}
use Rattle.hazard_core.specs.Keeping.{SameCell, LooksBelow}
use Rattle.hazard_core.specs.Rows.{cell_number, cell_pointer, with_row}

-- Cells take earlier ones, and what a read looks at stands in rows before its own.
pub record AreLaid (p : ProgramView) (row : ℕ → ℕ) : Type 0 where
  pub formed : AreFormed p.cells
  pub below : (c j : ℕ) → c < length p.cells → site_in (cell_at p.cells c).op ≡ Some j → LooksBelow row (row c) (site_at p.sites j)

-- cell c is as it is made in row r, from what the packet holds itself
pub record IsCellMade (p : ProgramView) (row : ℕ → ℕ) (r : ℕ) (t : TableState) (packet : PacketIn) (h : StageValues) (c : ℕ) : Type 0 where
  pub value : stage_value h c ≡ bits_from (cell_number p row r t packet h (cell_at p.cells c) (cell_at p.cells c).op) (cell_at p.cells c).from (cell_at p.cells c).width
  pub pointer : pointer_in h c ≡ cell_pointer p row r t h (cell_at p.cells c) (cell_at p.cells c).op

-- so are all cells of the row
pub record IsRowMade (p : ProgramView) (row : ℕ → ℕ) (r : ℕ) (t : TableState) (packet : PacketIn) (h : StageValues) : Type 0 where
  pub each : (c : ℕ) → c < length p.cells → row c ≡ r → IsCellMade p row r t packet h c

-- A packet that takes in a row holds it as it is made from all that it holds then.
abbrev pub RowIsMade : Type 0
RowIsMade =
    (p : ProgramView) (row : ℕ → ℕ) (r : ℕ) (t : TableState) (packet : PacketIn) (h : StageValues) → AreLaid p row → length h.values ≡ length p.cells → length h.pointers ≡ length p.cells
    → IsRowMade p row r t packet (with_row p row r t packet h)

-- Of all other rows it holds what it held.
abbrev pub RowKeeps : Type 0
RowKeeps =
    (p : ProgramView) (row : ℕ → ℕ) (r : ℕ) (t : TableState) (packet : PacketIn) (h : StageValues) (c : ℕ) → (row c ≢ r) ⊎ (length p.cells ≤ c) → SameCell h (with_row p row r t packet h) c
