use Rattle.std.proofs.Common.{◌≡◌, length}
use Rattle.std.proofs.Common.{map as map_list}
use Rattle.cell_core.specs.Cells.{phi, value_in}
use Rattle.cell_core.proofs.value.phi.Given as goal

abbrev pub invariant-loop-left : goal.invariant-loop-left
invariant-loop-left l = phi (map_list (value_in l.values) l.left) ≡ phi (map_list (value_in l.fn.values) l.fn.ins)

abbrev pub decreases-loop-left : goal.decreases-loop-left
decreases-loop-left l = length l.left
