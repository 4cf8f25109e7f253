use Rattle.hazard_core.proofs.Turns.{commits_in_turn}
use Rattle.hazard_core.proofs.laws.in_turn.Goals as goal

pub returns : goal.returns
returns c = commits_in_turn c.index_laws.ensures
