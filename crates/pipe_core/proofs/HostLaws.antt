-- A host that only reads writes nothing.
use Rattle.std.specs.Prelude.{◌≡◌, ℕ, ◌&&◌, Bool, true, false, Option, Some, None}
use Rattle.std.proofs.Common.{refl}
use Rattle.hazard_core.specs.declared.access.Access.{Access}
use Rattle.hazard_core.specs.Tables.{TableState, table_at, slot_at}
use Rattle.hazard_core.specs.Commits.{word_in, may_write}
use Rattle.pipe_core.specs.Machine.{written_if, host_writes}

pub nothing_written : (ready idle : Bool) (t : TableState) (a : Access) → a.write ≡ None → host_writes ready idle t (Some a) ≡ None
nothing_written ready idle t a e = none (ready && may_write idle (slot_at (table_at t a.map) a.index) (word_in t a)) a.write e
  where
    none : (q : Bool) (o : Option ℕ) → o ≡ None → written_if q a o ≡ None
    none false o f = refl
    none true None f = refl
    none true (Some n) f = cc
