use Rattle.std.proofs.Common.{◌≢◌, ℕ, ◌<◌, ◌≤◌, length, get_or}
use Rattle.btf_view.proofs.strings.Strings.new.Given as goal

-- no byte after the end is zero
abbrev pub invariant-loop-end : goal.invariant-loop-end
invariant-loop-end l = record {
  inside : l.end ≤ length l.bytes;
  none : (k : ℕ) → l.end ≤ k → k < length l.bytes → get_or l.bytes k 0 ≢ 0;
}

abbrev pub decreases-loop-end : goal.decreases-loop-end
decreases-loop-end l = l.end
