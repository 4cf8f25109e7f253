use Rattle.std.proofs.Common.{◌≡◌, length, map, get_or}
use Rattle.net_core.specs.View.{tree_of}
use Rattle.hash_net.specs.SlotNet.Slots.{slots_of, operands_of, slot_past}
use Rattle.hash_net.specs.SlotNet.Choosing.{AreTests, is_used}
use Rattle.hash_net.proofs.slot_net.testing.used_tests.Given as goal

abbrev pub invariant-loop-slot : goal.invariant-loop-slot
invariant-loop-slot g l = record {
  count : length l.tests.items ≡ l.slot-index;
  tests : AreTests (operands_of (slots_of l.slots)) (λ n v. is_used v (get_or (slots_of l.slots) n slot_past)) 0 (map tree_of l.tests.items);
}
