use Rattle.std.specs.List.{AllWithin}
use Rattle.cell_nets.specs.Operands.{IsNarrow}
use Rattle.cell_nets.proofs.operators.are_narrow.Given as goal

abbrev pub invariant-loop-at : goal.invariant-loop-at
invariant-loop-at g l = AllWithin (IsNarrow l.bits) l.args 1 l.at
