use Rattle.std.proofs.Common.{◌≡◌, ℕ, ◌<◌, get_or}
use Rattle.place_parts.proofs.mark_parts.marks.mark_before.Given as goal

abbrev pub invariant-loop-i : goal.invariant-loop-i
invariant-loop-i l = (n d : ℕ) → n < l.i → ¬ (get_or l.before n d ≡ l.site)
