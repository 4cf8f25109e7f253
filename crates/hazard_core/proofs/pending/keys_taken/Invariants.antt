use Rattle.std.proofs.Common.{◌≡◌, ◌≤◌}
use Rattle.std.specs.Prelude.{slice_index, filter, count_by}
use Rattle.cell_core.specs.Rows.{numbers}
use Rattle.cell_core.specs.View.{program_of}
use Rattle.hazard_core.specs.StageValues.{is_pending, takes_key}
use Rattle.hazard_core.proofs.pending.keys_taken.Given as goal

abbrev pub invariant-loop-i : goal.invariant-loop-i
invariant-loop-i l =
    (l.count ≡ count_by (takes_key (program_of l.program) l.tables.decls l.held) (filter (is_pending (program_of l.program) (slice_index l.rows) l.r l.j) (numbers 0 l.i))) × (l.count ≤ l.i)
