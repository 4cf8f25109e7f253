use Rattle.pipe_net.proofs.PipeMaps.ChangeLemmas.{changes_are_shown}
use Rattle.pipe_net.proofs.pipe_maps.laws.changes_are_shown.Goals as goal

pub returns : goal.returns
returns c = changes_are_shown c.seen.ensures c.records_alone.ensures c.writes.ensures.number
