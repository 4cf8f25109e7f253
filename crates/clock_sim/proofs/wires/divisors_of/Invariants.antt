use Rattle.std.proofs.Common.{◌≡◌, ◌++◌, map, drop}
use Rattle.net_core.specs.View.{wire_of}
use Rattle.clock_sim.specs.Edges.{AreDivided, divisors_from}
use Rattle.clock_sim.proofs.wires.divisors_of.Given as goal

abbrev pub invariant-loop-i : goal.invariant-loop-i
invariant-loop-i l = record {
  divided : AreDivided l.operands (drop l.i (map wire_of l.all));
  made : l.divisors.items ++ divisors_from l.operands l.i (drop l.i (map wire_of l.all)) ≡ divisors_from l.operands 0 (map wire_of l.all);
}
