use Rattle.pipe_core.specs.HostRuns.Loads.{LoadsTraces}
use Rattle.pipe_core.proofs.HostRuns.Loading.{loads_traces, loads_maps}
use Rattle.pipe_core.proofs.host_runs.laws.loads_maps.Goals as goal

pub returns : goal.returns
returns c =
    let traces : LoadsTraces = loads_traces c.index_laws.ensures c.keeps_over.ensures c.pair_laws.ensures in
    record { states = loads_maps traces; traces = traces }
