use Rattle.predicate_core.proofs.StepCells.Ends.{nodes_bring}
use Rattle.predicate_core.proofs.step_cells.laws.nodes_bring.Goals as goal

pub returns : goal.returns
returns c = nodes_bring
