-- Which cells may have a pointer beside their value.
use Rattle.std.specs.Prelude.{◌≡◌, ℕ, ◌+◌, ◌*◌, ◌<◌, Bool, true, false, List, length, slice_index}
use Rattle.std.proofs.Common.{get_or}
use Rattle.cell_core.specs.declared.operator.Operator.TheVariants.{Wire, Phi, Found}
use Rattle.cell_core.specs.Cells.{CellView, cell_at}

-- whether a cell is flagged; past the last none is
abbrev pub flag_at : List Bool → ℕ → Bool
flag_at flags k = get_or flags k false

-- The flags mark every cell that may have a pointer: what a read finds, and copies and joins of marked ones. Of a join the inputs stand in
-- pairs, an edge and what comes over it.
pub record ArePointing (cells : List CellView) (flags : List Bool) : Type 0 where
  pub count : length flags ≡ length cells
  pub found : (k j : ℕ) → k < length cells → (cell_at cells k).op ≡ Found j → flag_at flags k ≡ true
  pub wire : (k : ℕ) → k < length cells → (cell_at cells k).op ≡ Wire → flag_at flags (slice_index (cell_at cells k).ins 0) ≡ true → flag_at flags k ≡ true
  pub phi :
      (k n : ℕ) → k < length cells → (cell_at cells k).op ≡ Phi → 2 * n + 1 < length (cell_at cells k).ins → flag_at flags (slice_index (cell_at cells k).ins (2 * n + 1)) ≡ true
      → flag_at flags k ≡ true
