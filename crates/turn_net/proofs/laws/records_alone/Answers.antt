use Rattle.turn_net.proofs.AloneLemmas.{alone}
use Rattle.turn_net.proofs.laws.records_alone.Goals as goal

pub returns : goal.returns
returns c = alone
