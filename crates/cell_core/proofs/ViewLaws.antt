-- A cell in memory.
use Rattle.std.proofs.Common.{◌≡◌, ◌∙◌, ℕ, ◌<◌, List, length, get_or, map, sym, ap}
use Rattle.std.proofs.lemmas.List.{get_or-map}
use Rattle.cell_core.specs.declared.cell.Cell.{Cell}
use Rattle.cell_core.specs.View.{cell_of}
use Rattle.cell_core.specs.Cells.{no_cell, cell_at}

pub cell_is : (cells : List Cell) (n : ℕ) (c : Cell) → n < length cells → c ≡ get_or cells n c → cell_at (map cell_of cells) n ≡ cell_of c
cell_is cells n c within is = get_or-map cell_of cells n c no_cell within ∙ ap cell_of (sym is)
