use Rattle.std.specs.List.{range_with_len}
use Rattle.std.proofs.Common.{◌≡◌, map}
use Rattle.block_core.specs.View.{block_wire_of}
use Rattle.control_net.specs.Trees.{back_wire}
use Rattle.control_net.proofs.returns.wires.Given as goal

abbrev pub invariant-loop-i : goal.invariant-loop-i
invariant-loop-i g l = map block_wire_of l.all.items ≡ map (back_wire l.shape l.part l.control l.reload) (range_with_len 0 l.i)
