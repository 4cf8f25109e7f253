use Rattle.std.proofs.Common.{arith}
use Rattle.row_net.proofs.PlaceNet.PlaceLemmas.{width_same, width_small}
use Rattle.row_net.proofs.place_net.placing.width.Goals as goal

pub overflow_cast-result-2 : goal.overflow_cast-result-2
overflow_cast-result-2 c = let small = width_small c.args.cells.now c.args.number c.index-cells-number.result c.requires.formed c.requires.within in omega arith

pub returns : goal.returns
returns c = width_same c.args.cells.now c.args.number c.index-cells-number.result c.requires.within
