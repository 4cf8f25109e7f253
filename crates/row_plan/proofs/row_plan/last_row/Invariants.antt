use Rattle.std.proofs.Common.{◌≡◌, ◌≤◌, All, drop, take, max, slice_index}
use Rattle.cell_core.specs.Rows.{node_row, last_row}
use Rattle.row_plan.proofs.row_plan.last_row.Given as goal

abbrev pub invariant-loop-node : goal.invariant-loop-node
invariant-loop-node l = record {
  last : max l.last (last_row (slice_index l.rows) (drop l.node-index l.nodes)) ≡ last_row (slice_index l.rows) l.nodes;
  few : l.last ≤ 256;
  within : All (λ n. node_row (slice_index l.rows) n ≤ 256) (take l.node-index l.nodes);
}
