use Rattle.std.proofs.Common.{◌≡◌, ℕ, ◌<◌, ◌≤◌, [], length, get_or}
use Rattle.event_sim.proofs.held.copy_memories.Given as goal

abbrev pub invariant-loop-at : goal.invariant-loop-at
invariant-loop-at l = record {
  count : length l.memories ≡ length l.others;
  same : (k : ℕ) → k < l.at → get_or l.memories k [] ≡ get_or l.others k [];
  left : (k : ℕ) → l.at ≤ k → k < length l.memories → length (get_or l.memories k []) ≡ length (get_or l.others k []);
}
