use Rattle.std.proofs.Common.{◌≡◌, ◌&&◌, not}
use Rattle.std.specs.Prelude.{slice_index}
use Rattle.hazard_core.specs.cell_core.Sites.{site_at}
use Rattle.hazard_core.specs.cell_core.View.{program_of}
use Rattle.hazard_core.specs.Marks.{known_off}
use Rattle.pipe_core.proofs.Numbered.{made_to}
use Rattle.pipe_core.proofs.packet.keep_marks.Given as goal

abbrev pub invariant-loop-j : goal.invariant-loop-j
invariant-loop-j l =
    l.marks.items ≡ made_to (λ j m. m && not (known_off (slice_index l.planned.rows.items) l.k l.held (site_at (program_of l.planned.program.now).sites j))) l.j l.fn.marks.items
