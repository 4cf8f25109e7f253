use Rattle.std.proofs.Common.{◌≡◌, drop, ◌++◌}
use Rattle.row_rules.specs.NodeRows.Rows.{arrivals_of}
use Rattle.row_rules.proofs.node_rows.arriving.arrivals.Given as goal

abbrev pub invariant-loop-edge : goal.invariant-loop-edge
invariant-loop-edge l = l.arrivals.items ++ arrivals_of l.program l.nodes (drop l.edge-index l.edges) l.passed l.node ≡ arrivals_of l.program l.nodes l.edges l.passed l.node
