use Rattle.operator_cells.specs.Making.{seen}
use Rattle.operator_cells.specs.HeldCells.RegisterCells.{pointed}
use Rattle.operator_cells.specs.Rising.{RiseAll}
use Rattle.edge_cells.specs.Meeting.{PickWords}
use Rattle.edge_cells.specs.Rows.{choice_row, pointer_row_brought}
use Rattle.edge_cells.proofs.meeting.meet_key.Given as goal

abbrev pub invariant-loop-j : goal.invariant-loop-j
invariant-loop-j l = PickWords (seen l.fn.cells.items) (seen l.cells.items) (pointed l.pointers) l.ways l.part l.j l.key.items
    × RiseAll (seen l.fn.cells.items) (seen l.cells.items) l.key.items (λ row. choice_row row (pointer_row_brought (pointed l.pointers) l.part) l.ways)
