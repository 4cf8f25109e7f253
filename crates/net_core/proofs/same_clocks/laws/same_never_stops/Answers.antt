use Rattle.net_core.proofs.SameClocks.SameLaws.{same_never_stops}
use Rattle.net_core.proofs.same_clocks.laws.same_never_stops.Goals as goal

pub returns : goal.returns
returns c = same_never_stops
