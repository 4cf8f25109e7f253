use Rattle.std.specs.List.{range_with_len}
use Rattle.std.proofs.Common.{◌≡◌, map}
use Rattle.hash_net.specs.SlotNet.Shown.{shown_slot}
use Rattle.hash_net.specs.SlotNet.Slots.{slots_of}
use Rattle.hash_net.proofs.slot_net.shown.shown_slots.Given as goal

abbrev pub invariant-loop-n : goal.invariant-loop-n
invariant-loop-n g l = slots_of l.all.items ≡ map (shown_slot l.part l.decl) (range_with_len 0 l.n)
