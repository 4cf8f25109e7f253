-- How many cells are in memory, and which.
use Rattle.std.proofs.Common.{◌≡◌, ℕ, ◌<◌, List, length, get_or}
use Rattle.std.proofs.lemmas.List.{length-map, get_or-map}
use Rattle.cell_core.specs.declared.cell.Cell.{Cell}
use Rattle.cell_core.specs.Cells.{no_cell, cell_at}
use Rattle.cell_core.specs.View.{cell_of}
use Rattle.operator_cells.specs.Making.{seen}

pub seen_length : (cells : List Cell) → length (seen cells) ≡ length cells
unfolding seen
seen_length cells = length-map cells cell_of

pub seen_at : (cells : List Cell) (k : ℕ) (d : Cell) → k < length cells → cell_at (seen cells) k ≡ cell_of (get_or cells k d)
unfolding seen
seen_at cells k d h = get_or-map cell_of cells k d no_cell h
