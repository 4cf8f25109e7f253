use Rattle.std.specs.List.{range_with_len}
use Rattle.std.proofs.Common.{◌≡◌, ◌+◌, map}
use Rattle.block_core.specs.View.{block_wire_of}
use Rattle.commit_net.specs.Fetching.{fetched_wire}
use Rattle.commit_net.proofs.fetch.wires.Given as goal

abbrev pub invariant-loop-i : goal.invariant-loop-i
invariant-loop-i g l = map block_wire_of l.all.items ≡ map (λ i. fetched_wire l.of l.first l.bytes l.slot (l.from + i)) (range_with_len 0 l.i)
