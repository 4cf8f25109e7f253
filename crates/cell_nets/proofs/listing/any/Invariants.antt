use Rattle.std.specs.List.{list_any}
use Rattle.std.proofs.Common.{List, All, take, ◌+◌}
use Rattle.net_core.specs.View.{tree_of}
use Rattle.cell_core.specs.Cells.{bit, on}
use Rattle.cell_nets.specs.declared.operand.Operand.{Operand}
use Rattle.cell_nets.specs.Operands.{IsAvailable, number_in}
use Rattle.cell_nets.specs.Parts.{IsPart}
use Rattle.cell_nets.proofs.listing.any.Given as goal

abbrev pub invariant-loop-a : goal.invariant-loop-a
invariant-loop-a g l = (ins : List (Operand _)) → All (IsAvailable ins) l.args → IsPart ins (3 + l.a-index) 1 (λ v. bit (list_any (λ a. on (number_in v a)) (take l.a-index l.args))) (tree_of l.found)
