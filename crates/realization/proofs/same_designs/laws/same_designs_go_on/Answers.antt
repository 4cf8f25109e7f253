use Rattle.realization.proofs.SameDesigns.HistoryLaws.{same_designs_go_on}
use Rattle.realization.proofs.same_designs.laws.same_designs_go_on.Goals as goal

pub returns : goal.returns
returns c = same_designs_go_on
