use Rattle.std.proofs.Common.{◌≡◌, ℕ, ◌+◌, ◌<◌, length, get_or}
use Rattle.hazard_core.proofs.operation.padded.Given as goal

abbrev pub invariant-loop-j : goal.invariant-loop-j
invariant-loop-j l = (length l.all ≡ 8) × ((k : ℕ) → k < l.j → get_or l.all k 0 ≡ get_or l.bytes (l.at + k) 0)
