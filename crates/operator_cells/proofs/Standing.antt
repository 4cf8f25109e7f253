-- Cells that are there already.
use Rattle.std.proofs.Common.{◌≡◌, ℕ, ◌<◌, false, List, length, get_or, ◌∙◌, ap, subst, sym, arith}
use Rattle.cell_core.specs.declared.cell.Cell.{Cell}
use Rattle.cell_core.specs.Cells.{CellView, cell_at, is_read}
use Rattle.cell_core.specs.View.{cell_of}
use Rattle.operator_cells.specs.Making.{seen, Makes, operated}
use Rattle.operator_cells.specs.Rising.{Rises}
use Rattle.operator_cells.specs.Standing.{Stands}
use Rattle.operator_cells.proofs.Growing.{grown_none, value_at}
use Rattle.operator_cells.proofs.RisingLaws.{row_of, IsMade, stand_none}
use Rattle.operator_cells.proofs.SeenLaws.{seen_length, seen_at}

-- a cell that was read
pub stands_read : (cells : List Cell) (i k : ℕ) (x : Cell) (cell : CellView) → k ≡ i → i < length cells → x ≡ get_or cells i x → cell_of x ≡ cell → Stands (seen cells) k cell
stands_read cells i k x cell same there read is = record {
  there = omega (arith, same, there, seen_length cells);
  is = ap (cell_at (seen cells)) same ∙ seen_at cells i x there ∙ ap cell_of (sym read) ∙ is;
}

-- it is what a new one would be: so is its value
pub stands_makes : (cells : List CellView) (k : ℕ) (cell : CellView) → Stands cells k cell → is_read cell.op ≡ false → Makes cells cells k (operated cell.op cell.ins cell.from cell.width)
stands_makes cells k cell s plain = record {
  grows = grown_none cells;
  there = s.there;
  value = λ packet v r. value_at packet v cells cell k s.there s.is plain r;
}

-- and its row
pub stands_rises : (cells : List CellView) (k : ℕ) (cell : CellView) → Stands cells k cell → Rises cells cells k (row_of cell)
stands_rises cells k cell s = record {
  grows = stand_none.grows;
  result = λ row rows. omega (arith, subst (IsMade row k) s.is (rows.each k s.there));
}
