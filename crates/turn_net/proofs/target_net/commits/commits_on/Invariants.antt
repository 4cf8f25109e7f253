use Rattle.hazard_core.specs.cell_core.Cells.{bit}
use Rattle.cell_nets.specs.Wires.{wires_of, always, Gives}
use Rattle.turn_net.specs.TargetNet.Commits.{any_on}
use Rattle.turn_net.proofs.target_net.commits.commits_on.Given as goal

abbrev pub invariant-loop-i : goal.invariant-loop-i
invariant-loop-i g l = Gives l.part (wires_of l.fn.wires.items) (wires_of l.wires.items) l.chosen always (λ v. bit (any_on v l.maps l.chosen l.map l.i)) 1 l.any
