use Rattle.std.proofs.Common.{◌≡◌}
use Rattle.std.specs.Prelude.{slice_index, filter, fold}
use Rattle.cell_core.specs.Rows.{numbers}
use Rattle.cell_core.specs.View.{program_of}
use Rattle.hazard_core.specs.StageValues.{is_pending}
use Rattle.hazard_core.specs.Overlay.{found_over}
use Rattle.hazard_core.proofs.overlay.found_after.Given as goal

abbrev pub invariant-loop-i : goal.invariant-loop-i
invariant-loop-i l =
    l.found ≡ fold (found_over (program_of l.program) l.tables l.held l.key) l.fn.start (filter (is_pending (program_of l.program) (slice_index l.rows) l.r l.j) (numbers 0 l.i))
