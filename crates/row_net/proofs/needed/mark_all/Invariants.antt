use Rattle.std.specs.Prelude.{Contains}
use Rattle.std.proofs.Common.{take}
use Rattle.row_net.specs.Needed.{Marks}
use Rattle.row_net.proofs.needed.mark_all.Given as goal

abbrev pub invariant-loop-cell : goal.invariant-loop-cell
invariant-loop-cell l = Marks (Contains (take l.cell-index l.cells)) l.fn.flags l.flags
