use Rattle.turn_net.proofs.HostNet.MachineLemmas.{value_follows}
use Rattle.turn_net.proofs.host_net.laws.reads.Goals as goal

pub returns : goal.returns
returns g c = value_follows
