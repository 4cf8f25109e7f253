use Rattle.std.proofs.Common.{◌≡◌, drop}
use Rattle.row_rules.specs.NodeRows.Joining.{all_bring}
use Rattle.row_rules.proofs.node_rows.joining.all_bring.Given as goal

abbrev pub invariant-loop-arrival : goal.invariant-loop-arrival
invariant-loop-arrival l = all_bring (drop l.arrival-index l.arrivals) l.place l.origin ≡ all_bring l.arrivals l.place l.origin
