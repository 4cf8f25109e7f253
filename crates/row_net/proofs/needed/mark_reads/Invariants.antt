use Rattle.std.proofs.Common.{map}
use Rattle.overlay_net.specs.cell_core.View.{cell_of}
use Rattle.row_net.specs.Needed.{Marks}
use Rattle.row_net.proofs.MarkLemmas.{FirstReads}
use Rattle.row_net.proofs.needed.mark_reads.Given as goal

abbrev pub invariant-loop-number : goal.invariant-loop-number
invariant-loop-number l = Marks (FirstReads (map cell_of l.cells) l.number) l.fn.flags l.flags
