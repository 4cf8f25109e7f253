use Rattle.predicate_core.proofs.Fits.{arrivals_fit}
use Rattle.predicate_core.proofs.laws.arrivals_fit.Goals as goal

pub returns : goal.returns
returns c = arrivals_fit c.graphs_are_sound.ensures c.sound_graphs_feed.ensures
