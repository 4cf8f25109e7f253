use Rattle.pipe_core.proofs.HostRuns.Fitting.{loads_fit}
use Rattle.pipe_core.proofs.host_runs.laws.loads_fit.Goals as goal

pub returns : goal.returns
returns c = loads_fit c.pair_laws.ensures
