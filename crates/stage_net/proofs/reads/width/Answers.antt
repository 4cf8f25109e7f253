use Rattle.std.proofs.Common.{arith}
use Rattle.stage_net.proofs.CellLemmas.{width_most}
use Rattle.stage_net.proofs.reads.width.Goals as goal

pub overflow_cast-result : goal.overflow_cast-result
overflow_cast-result c = let small = width_most c.args.program.now.cells.items c.args.cell c.index.result.now c.requires (omega (arith, c.if-cell-len.true, c.len.ensures)) c.index.ensures in omega arith

pub returns-then-cell-len-clause-most : goal.returns-then-cell-len-clause-most
returns-then-cell-len-clause-most c = width_most c.args.program.now.cells.items c.args.cell c.index.result.now c.requires (omega (arith, c.if-cell-len.true, c.len.ensures)) c.index.ensures
