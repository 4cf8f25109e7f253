use Rattle.operator_cells.proofs.Arms.{choice_is_right}
use Rattle.operator_cells.proofs.laws.choice_is_right.Goals as goal

pub returns : goal.returns
returns c = choice_is_right
