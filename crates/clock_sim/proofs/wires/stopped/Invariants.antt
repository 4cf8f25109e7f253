use Rattle.std.proofs.Common.{◌≡◌, length, drop}
use Rattle.clock_sim.specs.Edges.{first_zero, AreDivisors}
use Rattle.clock_sim.proofs.wires.stopped.Given as goal

abbrev pub invariant-loop-d : goal.invariant-loop-d
invariant-loop-d l = record {
  there : AreDivisors (drop l.d-index l.divisors) (length l.slots);
  zero : first_zero (drop l.d-index l.divisors) l.slots ≡ first_zero l.divisors l.slots;
}
