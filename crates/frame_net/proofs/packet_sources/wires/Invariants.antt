use Rattle.std.proofs.Common.{◌≡◌, ◌+◌, ◌++◌, map, drop}
use Rattle.block_core.specs.View.{block_wire_of}
use Rattle.frame_net.specs.SourcesNets.{kept_wires, sources_wires}
use Rattle.frame_net.proofs.packet_sources.wires.Given as goal

abbrev pub invariant-loop-what : goal.invariant-loop-what
invariant-loop-what g l = record {
  number : l.memory ≡ 3 + l.what-index;
  wires : map block_wire_of l.all.items ++ kept_wires l.part l.gather l.slot l.memory (drop l.what-index l.kept) ≡ sources_wires l.part l.gather l.kept l.slot;
}
