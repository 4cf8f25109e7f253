use Rattle.net_core.proofs.SameClocks.SameLaws.{designs_show_their_own}
use Rattle.net_core.proofs.same_clocks.laws.designs_show_their_own.Goals as goal

pub returns : goal.returns
returns c = designs_show_their_own
