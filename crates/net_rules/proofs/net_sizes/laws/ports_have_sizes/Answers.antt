use Rattle.net_rules.proofs.NetSizes.PortLaws.{ports_have_sizes}
use Rattle.net_rules.proofs.net_sizes.laws.ports_have_sizes.Goals as goal

pub returns : goal.returns
returns c = ports_have_sizes
