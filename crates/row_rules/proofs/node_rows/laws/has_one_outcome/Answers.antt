use Rattle.row_rules.proofs.NodeRows.OneOutcomeLaws as one
use Rattle.row_rules.proofs.node_rows.laws.has_one_outcome.Goals as goal

pub returns : goal.returns
returns c = one.has_one_outcome
