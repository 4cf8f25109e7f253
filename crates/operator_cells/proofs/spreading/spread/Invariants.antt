use Rattle.operator_cells.specs.Making.{seen}
use Rattle.byteorder.specs.Endian.{little_bytes}
use Rattle.operator_cells.specs.Rising.{RiseAll}
use Rattle.operator_cells.specs.Spreading.{MakesBytes}
use Rattle.operator_cells.proofs.spreading.spread.Given as goal

abbrev pub invariant-loop-i : goal.invariant-loop-i
invariant-loop-i l = record {
  makes : MakesBytes (seen l.initial.cells.items) (seen l.cells.items) l.i l.bytes.items (λ v. little_bytes l.i (v l.a));
  rises : RiseAll (seen l.initial.cells.items) (seen l.cells.items) l.bytes.items (λ row. row l.a);
}
