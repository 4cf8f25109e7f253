use Rattle.std.proofs.Common.{map, take, drop}
use Rattle.net_core.specs.View.{wire_of}
use Rattle.clock_sim.proofs.WireLemmas.{Wiring}
use Rattle.clock_sim.proofs.wires.add_wires.Given as goal

abbrev pub invariant-loop-wire : goal.invariant-loop-wire
invariant-loop-wire l = Wiring l.initial.builder l.builder l.initial.operands l.operands (map wire_of l.all) (take l.wire-index (map wire_of l.all)) (drop l.wire-index (map wire_of l.all))
