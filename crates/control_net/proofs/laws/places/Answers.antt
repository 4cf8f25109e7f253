use Rattle.control_net.proofs.Told.{flushes_places, moves_places}
use Rattle.control_net.specs.contracts.laws.places.{X-type}
use Rattle.control_net.proofs.laws.places.Goals as goal

pub returns : goal.returns
returns g c = record { flushes = flushes_places (X-type g.row.X); moves = moves_places (X-type g.row.X) }
