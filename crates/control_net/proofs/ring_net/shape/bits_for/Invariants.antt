use Rattle.std.proofs.Common.{ℕ, ◌-◌, ◌^◌, ◌<◌, ◌≤◌}
use Rattle.control_net.proofs.ring_net.shape.bits_for.Given as goal

abbrev pub invariant-loop-bits : goal.invariant-loop-bits
invariant-loop-bits l = record {
  wide : 0 < l.bits;
  narrow : l.bits ≤ 16;
  least : (w : ℕ) → 0 < w → l.bound ≤ 2 ^ w → l.bits ≤ w;
}

abbrev pub decreases-loop-bits : goal.decreases-loop-bits
decreases-loop-bits l = 17 - l.bits
