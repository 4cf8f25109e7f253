use Rattle.std.specs.List.{range_with_len}
use Rattle.std.proofs.Common.{◌≡◌, map}
use Rattle.block_core.specs.View.{block_wire_of}
use Rattle.hash_net.specs.SlotNet.Shown.{shown_wire}
use Rattle.hash_net.proofs.slot_net.shown.wires.Given as goal

abbrev pub invariant-loop-i : goal.invariant-loop-i
invariant-loop-i g l = map block_wire_of l.all.items ≡ map (shown_wire l.of l.decl l.bits) (range_with_len 0 l.i)
