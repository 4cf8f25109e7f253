use Rattle.turn_net.proofs.HostNet.MachineLemmas.{host_follows, writes_its_number}
use Rattle.turn_net.proofs.host_net.laws.writes.Goals as goal

pub returns : goal.returns
returns g c = record { follows = host_follows; number = writes_its_number }
