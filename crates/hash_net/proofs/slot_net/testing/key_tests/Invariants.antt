use Rattle.std.proofs.Common.{◌≡◌, ◌++◌, length, map, get_or}
use Rattle.net_core.specs.View.{tree_of}
use Rattle.overlay_net.specs.hazard_core.Commits.{word_count}
use Rattle.hash_net.specs.SlotNet.Slots.{slots_of, operands_of, slot_past}
use Rattle.hash_net.specs.SlotNet.Choosing.{AreTests, is_under}
use Rattle.hash_net.proofs.slot_net.testing.key_tests.Given as goal

abbrev pub invariant-loop-slot : goal.invariant-loop-slot
invariant-loop-slot g l = record {
  count : length l.tests.items ≡ l.slot-index;
  tests : AreTests (l.key ++ operands_of (slots_of l.slots)) (λ n v. is_under v l.bytes l.key (get_or (slots_of l.slots) n slot_past) (word_count l.bytes)) 0 (map tree_of l.tests.items);
}
