-- The rows of cells.
use Rattle.std.proofs.Common.{arith}
use Rattle.cell_core.specs.Rows.{RowsRise}
use Rattle.cell_core.proofs.RowLaws.{greatest_above}

pub rows_rise : RowsRise
rows_rise cells row rows k h i d l = omega (arith, rows.each k h, greatest_above row _ i d l)
