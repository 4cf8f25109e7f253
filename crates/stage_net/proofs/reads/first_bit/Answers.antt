use Rattle.std.proofs.Common.{arith}
use Rattle.stage_net.proofs.CellLemmas.{from_most}
use Rattle.stage_net.proofs.reads.first_bit.Goals as goal

pub overflow_cast-result : goal.overflow_cast-result
overflow_cast-result c = let small = from_most c.args.program.now.cells.items c.args.cell c.index.result.now c.requires (omega (arith, c.if-cell-len.true, c.len.ensures)) c.index.ensures in omega arith

pub returns-then-cell-len-clause-most : goal.returns-then-cell-len-clause-most
returns-then-cell-len-clause-most c = from_most c.args.program.now.cells.items c.args.cell c.index.result.now c.requires (omega (arith, c.if-cell-len.true, c.len.ensures)) c.index.ensures
