use Rattle.overlay_net.specs.cell_core.View.{program_of}
use Rattle.row_net.proofs.MarkLemmas.{ClosesFrom}
use Rattle.row_net.proofs.needed.mark_inputs.Given as goal

abbrev pub invariant-loop-at : goal.invariant-loop-at
invariant-loop-at l = ClosesFrom (program_of l.program) l.at l.fn.flags l.flags

abbrev pub decreases-loop-at : goal.decreases-loop-at
decreases-loop-at l = l.at
