use Rattle.realization.proofs.SameDesigns.MeetLaws.{same_designs_show_maps}
use Rattle.realization.proofs.same_designs.laws.same_designs_show_maps.Goals as goal

pub returns : goal.returns
returns c = same_designs_show_maps
