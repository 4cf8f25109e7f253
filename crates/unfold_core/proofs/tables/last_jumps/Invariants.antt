use Rattle.std.proofs.Common.{◌≡◌, length}
use Rattle.unfold_core.specs.Tables.{target_in, AreLast}
use Rattle.unfold_core.proofs.tables.last_jumps.Given as goal

abbrev pub invariant-loop-place : goal.invariant-loop-place
invariant-loop-place l = record { last : AreLast (target_in l.units) l.place l.last.items; size : length l.last.items ≡ l.heads }
