use Rattle.cell_nets.specs.Wires.{wires_of}
use Rattle.turn_net.proofs.KeepLemmas.{IsKeeping}
use Rattle.turn_net.proofs.keeping.slots.Given as goal

abbrev pub invariant-loop-i : goal.invariant-loop-i
invariant-loop-i g l = IsKeeping l.part l.bits l.records l.chosen (wires_of l.fn.wires.items) (wires_of l.wires.items) l.i l.all.items
