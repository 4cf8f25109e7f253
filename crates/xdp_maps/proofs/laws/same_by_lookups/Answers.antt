use Rattle.std.specs.FinMap.{same_map}
use Rattle.xdp_maps.proofs.Hashes.{order_total, order_exact}
use Rattle.xdp_maps.proofs.laws.same_by_lookups.Goals as goal

pub returns : goal.returns
returns c a b same = same_map order_total order_exact a b same
