use Rattle.std.proofs.Common.{◌≡◌, ◌≤◌, ◌++◌, drop}
use Rattle.net_optimize.specs.Renumber.{numbers}
use Rattle.net_optimize.proofs.renumber.numbers.Given as goal

abbrev pub invariant-loop-is_kept : goal.invariant-loop-is_kept
invariant-loop-is_kept l = record {
  done : l.numbers.items ++ numbers l.next (drop l.is_kept-index l.keep) ≡ numbers 0 l.keep;
  below : l.next ≤ l.is_kept-index;
}
