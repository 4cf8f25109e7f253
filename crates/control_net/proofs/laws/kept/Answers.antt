use Rattle.control_net.proofs.Told.{keeps_places}
use Rattle.control_net.proofs.laws.kept.Goals as goal

pub returns : goal.returns
returns c = keeps_places
