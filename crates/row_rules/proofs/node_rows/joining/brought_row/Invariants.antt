use Rattle.std.proofs.Common.{◌≡◌, drop, max}
use Rattle.row_rules.specs.NodeRows.Joining.{brought_row}
use Rattle.row_rules.proofs.node_rows.joining.brought_row.Given as goal

abbrev pub invariant-loop-arrival : goal.invariant-loop-arrival
invariant-loop-arrival l = max l.most (brought_row (drop l.arrival-index l.arrivals) l.place) ≡ brought_row l.arrivals l.place
