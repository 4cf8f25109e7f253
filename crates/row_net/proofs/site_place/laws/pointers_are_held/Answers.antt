use Rattle.row_net.proofs.SitePlace.HeldLemmas.{pointers_held}
use Rattle.row_net.proofs.site_place.laws.pointers_are_held.Goals as goal

pub returns : goal.returns
returns c = pointers_held
