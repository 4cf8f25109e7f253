use Rattle.std.proofs.Common.{◌≡◌, drop, max}
use Rattle.row_rules.specs.NodeRows.Joining.{edge_row}
use Rattle.row_rules.proofs.node_rows.joining.edge_row.Given as goal

abbrev pub invariant-loop-arrival : goal.invariant-loop-arrival
invariant-loop-arrival l = max l.most (edge_row (drop l.arrival-index l.arrivals)) ≡ edge_row l.arrivals
