use Rattle.std.proofs.Common.{◌≡◌, length}
use Rattle.operator_cells.specs.Making.{seen}
use Rattle.predicate_core.specs.Opening.{AreBytes}
use Rattle.predicate_core.proofs.opening.bytes.Given as goal

abbrev pub invariant-loop-i : goal.invariant-loop-i
invariant-loop-i l = (length l.window ≡ 256) × AreBytes (seen l.fn.cells.items) (seen l.cells.items) l.i l.window
