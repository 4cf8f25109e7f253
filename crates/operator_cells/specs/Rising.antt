-- In which rows new cells stand at most.
use Rattle.std.specs.Prelude.{ℕ, ◌<◌, ◌≤◌, List, length}
use Rattle.cell_core.specs.Cells.{CellView}
use Rattle.cell_core.specs.Rows.{AreRows, greatest}

-- More cells: rows of all are rows of those that were there, and no new one stands in a later row than this.
pub record GrowsTo (old new : List CellView) (last : (ℕ → ℕ) → ℕ) : Type 0 where
  pub rows : (row : ℕ → ℕ) → AreRows new row → AreRows old row
  pub each : (row : ℕ → ℕ) → AreRows new row → (k : ℕ) → length old ≤ k → k < length new → row k ≤ last row

-- The same, and a cell among them, a new one or one that was there, that stands in no later row either.
pub record Rises (old new : List CellView) (c : ℕ) (last : (ℕ → ℕ) → ℕ) : Type 0 where
  pub grows : GrowsTo old new last
  pub result : (row : ℕ → ℕ) → AreRows new row → row c ≤ last row

-- the same of several cells
pub record RiseAll (old new : List CellView) (cs : List ℕ) (last : (ℕ → ℕ) → ℕ) : Type 0 where
  pub grows : GrowsTo old new last
  pub results : (row : ℕ → ℕ) → AreRows new row → greatest row cs ≤ last row
