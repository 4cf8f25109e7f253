use Rattle.operator_cells.specs.Making.{seen}
use Rattle.predicate_core.specs.Closing.{AreFrameBytes}
use Rattle.predicate_core.proofs.closing.frame_bytes.Given as goal

abbrev pub invariant-loop-i : goal.invariant-loop-i
invariant-loop-i l = AreFrameBytes (seen l.fn.cells.items) (seen l.cells.items) l.exits l.window l.i l.frame.items
