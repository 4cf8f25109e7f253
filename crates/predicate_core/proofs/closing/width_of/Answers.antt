use Rattle.std.proofs.Common.{sym}
use Rattle.predicate_core.proofs.Closed.{seen_inside, seen_width}
use Rattle.predicate_core.proofs.closing.width_of.Goals as goal

pub bounds-cells-cell : goal.bounds-cells-cell
bounds-cells-cell c = seen_inside c.args.cells.now c.args.cell c.requires

pub bounds-cells-cell-2 : goal.bounds-cells-cell-2
bounds-cells-cell-2 c = seen_inside c.args.cells.now c.args.cell c.requires

pub returns : goal.returns
returns c = sym (seen_width c.args.cells.now c.args.cell c.index-cells-cell.result c.requires)
