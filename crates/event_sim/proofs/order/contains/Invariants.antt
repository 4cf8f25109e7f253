use Rattle.std.proofs.Common.{◌≡◌, ℕ, ◌<◌, get_or}
use Rattle.event_sim.proofs.order.contains.Given as goal

abbrev pub invariant-loop-named : goal.invariant-loop-named
invariant-loop-named l = (k : ℕ) → k < l.named-index → get_or l.order k l.number ≡ l.number → ⊥
