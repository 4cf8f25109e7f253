use Rattle.row_plan.proofs.RowLemmas.{AreRowsSoFar}
use Rattle.std.proofs.Common.{map as map_list}
use Rattle.cell_core.specs.View.{cell_of}
use Rattle.row_plan.proofs.rows.rows_of.Given as goal

abbrev pub invariant-loop-cell : goal.invariant-loop-cell
invariant-loop-cell l = AreRowsSoFar (map_list cell_of l.cells) l.cell-index l.rows.items
