use Rattle.row_rules.proofs.NodeRows.RowsLaws.{SoFar}
use Rattle.row_rules.proofs.node_rows.stages.count_stages.Given as goal

abbrev pub invariant-loop-number : goal.invariant-loop-number
invariant-loop-number l = SoFar l.program l.unfolded.nodes.items l.unfolded.edges.items l.number l.passed.items l.stages
