use Rattle.std.proofs.Common.{◌≤◌, length}
use Rattle.net_optimize.proofs.reads.live_reads.Given as goal

abbrev pub invariant-loop-left : goal.invariant-loop-left
invariant-loop-left l = l.left ≤ length l.wires

abbrev pub decreases-loop-left : goal.decreases-loop-left
decreases-loop-left l = l.left
