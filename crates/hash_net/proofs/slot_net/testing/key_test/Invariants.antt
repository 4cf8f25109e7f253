use Rattle.std.proofs.Common.{All, List, ◌+◌}
use Rattle.net_core.specs.View.{tree_of}
use Rattle.overlay_net.specs.cell_core.Cells.{bit}
use Rattle.cell_nets.specs.declared.operand.Operand.{Operand}
use Rattle.cell_nets.specs.Operands.{IsAvailable}
use Rattle.cell_nets.specs.Parts.{IsPart}
use Rattle.hash_net.specs.SlotNet.Slots.{slot_operands, all_of}
use Rattle.hash_net.specs.SlotNet.Choosing.{is_under}
use Rattle.hash_net.proofs.slot_net.testing.key_test.Given as goal

abbrev pub invariant-loop-w : goal.invariant-loop-w
invariant-loop-w g l = (ins : List (Operand _)) → All (IsAvailable ins) (all_of (slot_operands l.slot)) → All (IsAvailable ins) l.key → IsPart ins (3 + l.w) 1 (λ v. bit (is_under v l.bytes l.key (slot_operands l.slot) l.w)) (tree_of l.test)
