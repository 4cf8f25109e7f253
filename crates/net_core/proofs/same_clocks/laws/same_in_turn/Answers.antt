use Rattle.net_core.proofs.SameClocks.SameLaws.{same_in_turn}
use Rattle.net_core.proofs.same_clocks.laws.same_in_turn.Goals as goal

pub returns : goal.returns
returns c = same_in_turn
