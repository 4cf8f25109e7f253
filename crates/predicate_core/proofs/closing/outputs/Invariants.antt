use Rattle.operator_cells.specs.Making.{seen}
use Rattle.predicate_core.specs.Closing.{AreOutputs}
use Rattle.predicate_core.proofs.closing.outputs.Given as goal

abbrev pub invariant-loop-exit : goal.invariant-loop-exit
invariant-loop-exit l = AreOutputs (seen l.fn.cells.items) (seen l.cells.items) l.exits l.output l.exit-index l.arms.items
