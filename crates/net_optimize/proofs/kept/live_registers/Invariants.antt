use Rattle.std.proofs.Common.{◌≡◌, ◌+◌, length, drop}
use Rattle.net_core.specs.Clock.{first_words}
use Rattle.net_optimize.proofs.kept.live_registers.Given as goal

abbrev pub invariant-loop-item : goal.invariant-loop-item
invariant-loop-item l = length l.keep.items + length (first_words (drop l.item-index l.declared)) ≡ length (first_words l.declared)
