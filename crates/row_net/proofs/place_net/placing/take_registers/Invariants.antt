use Rattle.std.proofs.Common.{map as map_list}
use Rattle.overlay_net.specs.cell_core.View.{cell_of}
use Rattle.row_net.proofs.PlaceNet.TakenLemmas.{HasTaken}
use Rattle.row_net.proofs.place_net.placing.take_registers.Given as goal

abbrev pub invariant-loop-i : goal.invariant-loop-i
invariant-loop-i g l = HasTaken l.part (map_list cell_of l.cells) l.carried l.i l.fn.table.items l.table.items
