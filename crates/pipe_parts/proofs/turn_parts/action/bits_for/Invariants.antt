use Rattle.std.proofs.Common.{ℕ, ◌-◌, ◌^◌, ◌<◌, ◌≤◌}
use Rattle.pipe_parts.proofs.turn_parts.action.bits_for.Given as goal

abbrev pub invariant-loop-bits : goal.invariant-loop-bits
invariant-loop-bits l = record {
  some : 0 < l.bits;
  most : l.bits ≤ 17;
  least : (w : ℕ) → 0 < w → l.number < 2 ^ w → l.bits ≤ w;
}

abbrev pub decreases-loop-bits : goal.decreases-loop-bits
decreases-loop-bits l = 18 - l.bits
