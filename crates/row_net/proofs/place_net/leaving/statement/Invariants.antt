use Rattle.std.proofs.Common.{◌≡◌, ◌≤◌, length, map as map_list}
use Rattle.net_core.specs.Nets.{SEnd}
use Rattle.net_core.specs.Chains.{statements_before}
use Rattle.net_core.specs.View.{tree_of, statements_of}
use Rattle.frame_net.specs.Stores.{store_statements}
use Rattle.row_net.specs.PlaceNet.ExitNets.{exit_stores}
use Rattle.row_net.proofs.place_net.leaving.statement.Given as goal

abbrev pub invariant-loop-value : goal.invariant-loop-value
invariant-loop-value g l = record {
  few : length l.left.items ≤ 257;
  statements : statements_before (store_statements 0 (exit_stores l.exits l.slot (map_list tree_of l.left.items))) (statements_of l.list)
      ≡ statements_before (store_statements 0 (exit_stores l.exits l.slot (map_list tree_of l.fn.values.items))) SEnd;
}

abbrev pub decreases-loop-value : goal.decreases-loop-value
decreases-loop-value g l = length l.left.items
