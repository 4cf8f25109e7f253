use Rattle.std.proofs.Common.{◌≡◌, take, map as map_list}
use Rattle.operator_cells.specs.HeldCells.RegisterCells.{pointed}
use Rattle.edge_cells.proofs.PointerArms.{arm_of}
use Rattle.edge_cells.proofs.meeting.meet_cell.Given as goal

abbrev pub invariant-loop-way : goal.invariant-loop-way
invariant-loop-way l = l.arms.items ≡ map_list (arm_of (pointed l.pointers) l.part l.j) (take l.way-index l.ways)
