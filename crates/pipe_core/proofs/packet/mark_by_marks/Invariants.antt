use Rattle.std.proofs.Common.{◌≡◌, ◌||◌}
use Rattle.std.specs.Prelude.{slice_index}
use Rattle.hazard_core.specs.cell_core.View.{program_of}
use Rattle.hazard_core.specs.Marks.{is_marked}
use Rattle.pipe_core.proofs.Numbered.{made_to}
use Rattle.pipe_core.proofs.packet.mark_by_marks.Given as goal

abbrev pub invariant-loop-j : goal.invariant-loop-j
invariant-loop-j l =
    l.marks.items ≡ made_to (λ j m. m || is_marked (program_of l.planned.program.now) (slice_index l.planned.rows.items) l.tables.decls l.k l.held l.change j) l.j l.fn.marks.items
