-- Cells that are there already.
use Rattle.std.specs.Prelude.{ℕ, ◌≡◌, ◌<◌, List, length}
use Rattle.cell_core.specs.Cells.{CellView, cell_at}

-- cell k is this one
pub record Stands (cells : List CellView) (k : ℕ) (cell : CellView) : Type 0 where
  pub there : k < length cells
  pub is : cell_at cells k ≡ cell
