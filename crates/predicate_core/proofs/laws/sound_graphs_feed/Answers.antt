use Rattle.predicate_core.proofs.Fed.{sound_graphs_feed}
use Rattle.predicate_core.proofs.laws.sound_graphs_feed.Goals as goal

pub returns : goal.returns
returns c = sound_graphs_feed
