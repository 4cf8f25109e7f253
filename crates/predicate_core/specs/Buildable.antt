-- What holds of the cells of a program besides the law of cells.
use Rattle.std.specs.Prelude.{ℕ, ◌≡◌, ◌<◌, ◌≤◌, false, List, [], length, All}
use Rattle.std.specs.List.{AllPairs}
use Rattle.cell_core.specs.Cells.{CellView, cell_at, is_read}
use Rattle.cell_core.specs.Sites.{ProgramView}
use Rattle.cell_core.specs.Rows.{AreRows, last_row}
use Rattle.operator_cells.specs.Making.{NumbersAreAlone}

-- a cell that is there, of at most so many bits
pub record HasBits (cells : List CellView) (bits c : ℕ) : Type 0 where
  pub there : c < length cells
  pub width : (cell_at cells c).width ≤ bits

-- No new cell stands in a later row than all that were there.
abbrev pub AddsNoRow : List CellView → List CellView → Type 0
AddsNoRow old new = (row : ℕ → ℕ) (n : ℕ) → AreRows new row → ((k : ℕ) → k < length old → row k ≤ n) → (k : ℕ) → k < length new → row k ≤ n

-- The cells of the answer have the widths of an answer, and the bytes that may change are some of the first 256, each once and in their order. No cell
-- stands in a later row than the last of a node. A node has a site at most, and a program without sites reads none. Numbers take no
-- cells, nor does what comes with a packet: of that `AreFormed` says so.
pub record IsBuildable (p : ProgramView) : Type 0 where
  pub verdict : HasBits p.cells 32 p.verdict
  pub target : HasBits p.cells 32 p.target
  pub bytes : All (λ b. (b.at < 256) × HasBits p.cells 8 b.cell) p.frame
  pub ascending : AllPairs (λ a b. a.at < b.at) p.frame
  pub rows : (row : ℕ → ℕ) → AreRows p.cells row → (k : ℕ) → k < length p.cells → row k ≤ last_row row p.nodes
  pub numbers : NumbersAreAlone p.cells
  pub operations : length p.sites ≤ length p.nodes
  pub no_reads : p.sites ≡ [] → (k : ℕ) → k < length p.cells → is_read (cell_at p.cells k).op ≡ false
