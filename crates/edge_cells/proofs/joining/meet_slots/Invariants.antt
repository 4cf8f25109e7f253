use Rattle.std.proofs.Common.{◌≡◌, length}
use Rattle.operator_cells.specs.Making.{seen}
use Rattle.operator_cells.specs.HeldCells.RegisterCells.{pointed}
use Rattle.edge_cells.specs.declared.part.Part.TheVariants.{Slot}
use Rattle.edge_cells.specs.Meeting.{MeetRow}
use Rattle.edge_cells.specs.Rows.{MeetRowTo}
use Rattle.edge_cells.specs.Pointing.{MeetRowPoints}
use Rattle.edge_cells.proofs.joining.meet_slots.Given as goal

abbrev pub invariant-loop-i : goal.invariant-loop-i
invariant-loop-i l = (length l.held ≡ 64) × MeetRow l.decls (seen l.fn.cells.items) (seen l.cells.items) (pointed l.fn.pointers.items) (pointed l.pointers.items) l.ways l.kinds Slot l.i l.held
    × MeetRowTo (seen l.fn.cells.items) (seen l.cells.items) (pointed l.fn.pointers.items) (pointed l.pointers.items) l.ways l.kinds Slot l.i l.held
    × MeetRowPoints l.decls (seen l.cells.items) (pointed l.fn.pointers.items) (pointed l.pointers.items) l.ways l.kinds Slot l.i l.held
