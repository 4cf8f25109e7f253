use Rattle.pipe_net.proofs.PipePlaces.Standing.{at_places}
use Rattle.pipe_net.proofs.pipe_places.laws.sites_at_places.Goals as goal

pub returns : goal.returns
returns c = at_places c.stages_are_placed.ensures.placed
