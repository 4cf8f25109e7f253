use Rattle.std.proofs.Common.{◌≡◌, ◌+◌, ◌*◌, ◌<◌, ℕ, false, slice_index}
use Rattle.row_net.specs.Needed.{flag}
use Rattle.stage_net.proofs.site_table.pointing.joins_flagged.Given as goal

abbrev pub invariant-loop-n : goal.invariant-loop-n
invariant-loop-n l = (k : ℕ) → 2 * k + 1 < l.n → flag l.flags (slice_index l.ins (2 * k + 1)) ≡ false
