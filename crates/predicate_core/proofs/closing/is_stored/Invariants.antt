use Rattle.std.proofs.Common.{◌≡◌, ◌<◌, ℕ, get_or}
use Rattle.std.specs.Prelude.{slice_index}
use Rattle.operator_cells.specs.declared.held_cells.way.Exit.{Exit}
use Rattle.predicate_core.proofs.closing.is_stored.Given as goal

abbrev pub invariant-loop-exit : goal.invariant-loop-exit
invariant-loop-exit l = (j : ℕ) (d : Exit) → j < l.exit-index → slice_index (get_or l.exits j d).held.window l.i ≡ l.own
