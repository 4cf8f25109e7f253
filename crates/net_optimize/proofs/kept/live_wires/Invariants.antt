use Rattle.std.proofs.Common.{◌≡◌, length}
use Rattle.net_optimize.proofs.kept.live_wires.Given as goal

abbrev pub invariant-loop-i : goal.invariant-loop-i
invariant-loop-i l = length l.keep.items ≡ l.i
