use Rattle.std.proofs.Common.{arith}
use Rattle.row_net.proofs.MarkLemmas.{marks_start, marks_step, marks_all}
use Rattle.row_net.proofs.needed.mark_all.Goals as goal

pub loop-cell-init : goal.loop-cell-init
loop-cell-init c = marks_start c.args.flags.now

pub loop-cell-preserved : goal.loop-cell-preserved
loop-cell-preserved c = marks_step c.args.cells.now c.loop-cell.cell-index c.args.flags.now c.loop-cell.flags c.mark.new.flags c.loop-cell-test.true c.loop-cell.invariant c.mark.ensures

pub returns : goal.returns
returns c = marks_all c.args.cells.now c.loop-cell.cell-index c.args.flags.now c.loop-cell.flags (omega arith) c.loop-cell.invariant
