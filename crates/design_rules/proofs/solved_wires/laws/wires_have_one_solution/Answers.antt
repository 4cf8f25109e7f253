use Rattle.design_rules.proofs.SolvedWires.SolvingLaws.{wires_have_one_solution}
use Rattle.design_rules.proofs.solved_wires.laws.wires_have_one_solution.Goals as goal

pub returns : goal.returns
returns c = wires_have_one_solution
