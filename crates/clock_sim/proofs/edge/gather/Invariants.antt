use Rattle.std.proofs.Common.{◌≡◌, take}
use Rattle.clock_sim.specs.Edges.{taken}
use Rattle.clock_sim.proofs.edge.gather.Given as goal

abbrev pub invariant-loop-i : goal.invariant-loop-i
invariant-loop-i l = take l.i l.words ≡ take l.i (taken l.next l.slots)
