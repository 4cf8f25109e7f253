use Rattle.std.proofs.Common.{◌≡◌, length}
use Rattle.cell_nets.specs.Wires.{wires_of}
use Rattle.turn_net.proofs.TargetNet.CommitLemmas.{Far}
use Rattle.turn_net.proofs.target_net.commits.commit_nets.Given as goal

abbrev pub invariant-loop-map : goal.invariant-loop-map
invariant-loop-map g l = record {
  count : length l.all.items ≡ l.map;
  stands : Far l.part l.maps l.chosen (wires_of l.fn.wires.items) (wires_of l.wires.items) l.all.items;
}
