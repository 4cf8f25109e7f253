use Rattle.unfold_core.proofs.KnownOn.{links_are_joined}
use Rattle.unfold_core.proofs.laws.links_are_joined.Goals as goal

pub returns : goal.returns
returns c = links_are_joined
