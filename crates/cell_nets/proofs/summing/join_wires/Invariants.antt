use Rattle.cell_nets.specs.Wires.{wires_of, always, Gives}
use Rattle.cell_nets.proofs.SumLemmas.{so_far}
use Rattle.cell_nets.proofs.summing.join_wires.Given as goal

abbrev pub invariant-loop-a : goal.invariant-loop-a
invariant-loop-a g l = Gives l.part (wires_of l.fn.wires.items) (wires_of l.wires.items) l.args always (so_far l.args l.bits l.a-index) 64 l.higher
