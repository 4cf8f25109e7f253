use Rattle.std.proofs.Common.{refl}
use Rattle.operator_cells.proofs.Standing.{stands_read}
use Rattle.operator_cells.proofs.sharing.find.Goals as goal

pub returns-then-same_cell : goal.returns-then-same_cell
returns-then-same_cell c = stands_read _ _ _ _ _ c.in-Ok.ensures.1 c.loop-i-test.true c.index-cells-i.is (c.if-same_cell.ensures refl)
