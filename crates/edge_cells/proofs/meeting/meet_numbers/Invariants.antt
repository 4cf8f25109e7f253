use Rattle.operator_cells.specs.Making.{seen}
use Rattle.edge_cells.specs.Meeting.{number_brought}
use Rattle.edge_cells.specs.Rows.{number_row_brought}
use Rattle.edge_cells.proofs.Choices.{AreArms}
use Rattle.edge_cells.proofs.ChoiceRows.{ArmsTo}
use Rattle.edge_cells.proofs.meeting.meet_numbers.Given as goal

abbrev pub invariant-loop-way : goal.invariant-loop-way
invariant-loop-way l = AreArms (seen l.fn.cells.items) (seen l.cells.items) l.arms.items l.ways (number_brought l.part) l.way-index
    × ArmsTo (seen l.fn.cells.items) (seen l.cells.items) l.arms.items l.ways (number_row_brought l.part) l.way-index
