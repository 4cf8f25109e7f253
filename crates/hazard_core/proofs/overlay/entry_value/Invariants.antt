use Rattle.std.proofs.Common.{◌≡◌}
use Rattle.std.specs.Prelude.{slice_index, filter, fold}
use Rattle.cell_core.specs.Rows.{numbers}
use Rattle.cell_core.specs.Sites.{site_at}
use Rattle.cell_core.specs.View.{program_of}
use Rattle.hazard_core.specs.Tables.{decl_of, table_at}
use Rattle.hazard_core.specs.StageValues.{is_pending}
use Rattle.hazard_core.specs.Overlay.{value_over, value_under}
use Rattle.hazard_core.proofs.overlay.entry_value.Given as goal

abbrev pub invariant-loop-i : goal.invariant-loop-i
invariant-loop-i l =
    l.value ≡ fold (value_over (program_of l.program) l.tables l.held l.under)
    (value_under (decl_of l.tables.decls (site_at (program_of l.program).sites l.j).map) (table_at l.tables (site_at (program_of l.program).sites l.j).map) l.under)
    (filter (is_pending (program_of l.program) (slice_index l.rows) l.r l.j) (numbers 0 l.i))
