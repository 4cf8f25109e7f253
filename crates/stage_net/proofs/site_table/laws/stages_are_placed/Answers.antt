use Rattle.stage_net.proofs.SiteTable.StageLemmas.{stages_placed, lists_formed}
use Rattle.stage_net.proofs.site_table.laws.stages_are_placed.Goals as goal

pub returns-clause-placed : goal.returns-clause-placed
returns-clause-placed c = stages_placed c.rows_rise.ensures c.cells_are_placed.ensures

pub returns-clause-lists : goal.returns-clause-lists
returns-clause-lists c = lists_formed
