use Rattle.std.proofs.Common.{map as map_list}
use Rattle.cell_core.specs.View.{cell_of}
use Rattle.row_plan.specs.Steps.{Keeps, OfInputs}
use Rattle.row_plan.proofs.keeping.keep_inputs.Given as goal

abbrev pub invariant-loop-number : goal.invariant-loop-number
invariant-loop-number l = Keeps (OfInputs (map_list cell_of l.cells) l.rows l.number) l.fn.kept l.kept
