use Rattle.pipe_net.proofs.PipeMaps.HostLemmas.{value_is_shown, maps_let_write}
use Rattle.pipe_net.proofs.pipe_maps.laws.host_is_served.Goals as goal

pub returns-clause-reads : goal.returns-clause-reads
returns-clause-reads c = value_is_shown c.seen.ensures c.reads.ensures

pub returns-clause-writes : goal.returns-clause-writes
returns-clause-writes c = maps_let_write c.seen.ensures
