-- A cell in memory.
use Rattle.std.proofs.Common.{◌≡◌, ℕ, ◌<◌, ◌≤◌, List, length, get_or, map, subst, arith}
use Rattle.std.proofs.lemmas.List.{length-map}
use Rattle.hazard_core.specs.cell_core.declared.cell.Cell.{Cell}
use Rattle.hazard_core.specs.cell_core.View.{cell_of}
use Rattle.hazard_core.specs.cell_core.Cells.{CellView, cell_at, no_cell}
use Rattle.hazard_core.specs.cell_core.Formed.{AreFormed}
use Rattle.row_plan.proofs.cell_core_laws.ViewLaws.{cell_is}

pub width_most : (cells : List Cell) (n : ℕ) (c : Cell) → AreFormed (map cell_of cells) → n < length cells → c ≡ get_or cells n c → c.width ≤ 64
width_most cells n c formed inside is = subst (λ (v : CellView). v.width ≤ 64) (cell_is cells n c inside is) (formed.each n (let l = length-map cells cell_of in omega (arith, l, inside))).width

pub from_most : (cells : List Cell) (n : ℕ) (c : Cell) → AreFormed (map cell_of cells) → n < length cells → c ≡ get_or cells n c → c.from ≤ 63
from_most cells n c formed inside is = subst (λ (v : CellView). v.from ≤ 63) (cell_is cells n c inside is) (formed.each n (let l = length-map cells cell_of in omega (arith, l, inside))).from
