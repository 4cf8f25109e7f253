use Rattle.design_rules.proofs.SolvedWires.SolvingLaws.{clocks_solve_wires}
use Rattle.design_rules.proofs.solved_wires.laws.clocks_solve_wires.Goals as goal

pub returns : goal.returns
returns c = clocks_solve_wires
