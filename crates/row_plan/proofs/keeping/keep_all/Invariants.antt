use Rattle.std.proofs.Common.{take}
use Rattle.row_plan.specs.Steps.{Keeps, OfAll}
use Rattle.row_plan.proofs.keeping.keep_all.Given as goal

abbrev pub invariant-loop-cell : goal.invariant-loop-cell
invariant-loop-cell l = Keeps (OfAll (take l.cell-index l.cells) l.row) l.fn.kept l.kept
