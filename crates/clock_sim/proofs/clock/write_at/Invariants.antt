use Rattle.std.proofs.Common.{◌≡◌, ◌+◌, drop}
use Rattle.clock_sim.specs.Layouts.{with_words}
use Rattle.clock_sim.proofs.clock.write_at.Given as goal

abbrev pub invariant-loop-i : goal.invariant-loop-i
invariant-loop-i l = with_words (l.at + l.i) (drop l.i l.words) l.slots ≡ with_words l.at l.words l.initial.slots
