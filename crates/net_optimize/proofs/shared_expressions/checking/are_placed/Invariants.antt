use Rattle.std.proofs.Common.{map}
use Rattle.net_core.specs.View.{wire_of}
use Rattle.net_optimize.specs.SharedExpressions.Standing.{AreBefore}
use Rattle.net_optimize.proofs.shared_expressions.checking.are_placed.Given as goal

abbrev pub invariant-loop-place : goal.invariant-loop-place
invariant-loop-place l = AreBefore l.table.numbers.items (map wire_of l.table.wires.items) (map wire_of l.wires) l.place l.next
