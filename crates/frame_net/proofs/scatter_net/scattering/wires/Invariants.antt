use Rattle.std.proofs.Common.{◌≡◌, ◌++◌, map, drop}
use Rattle.block_core.specs.View.{block_wire_of}
use Rattle.frame_net.specs.ScatterNet.ScatterNets.{word_wires, scatter_wires}
use Rattle.frame_net.proofs.scatter_net.scattering.wires.Given as goal

abbrev pub invariant-loop-word : goal.invariant-loop-word
invariant-loop-word g l = record {
  number : l.i ≡ l.word-index;
  wires : map block_wire_of l.all.items ++ word_wires l.part l.exit l.slot l.bytes l.i (drop l.word-index l.words) ≡ scatter_wires l.part l.fn.gather l.exit l.fn.bits l.fn.kept l.words l.bytes l.slot;
}
