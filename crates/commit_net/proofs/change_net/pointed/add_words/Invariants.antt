use Rattle.std.specs.List.{range_with_len}
use Rattle.std.proofs.Common.{◌≡◌, ◌+◌, ◌++◌, length, map}
use Rattle.overlay_net.specs.cell_nets.Wires.{wires_of}
use Rattle.commit_net.specs.Fetching.{fetched_wire}
use Rattle.commit_net.specs.ChangeNet.Pointed.{wires_from}
use Rattle.commit_net.proofs.change_net.pointed.add_words.Given as goal

abbrev pub invariant-loop-i : goal.invariant-loop-i
invariant-loop-i g l = record {
  wires : wires_of l.wires.items ≡ wires_of l.fn.wires.items ++ map (λ i. fetched_wire l.of l.first l.bytes l.slot (l.from + i)) (range_with_len 0 l.i);
  names : l.words.items ≡ wires_from l.part (length (wires_of l.fn.wires.items)) l.i;
}
