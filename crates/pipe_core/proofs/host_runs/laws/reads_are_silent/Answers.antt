use Rattle.pipe_core.proofs.HostRuns.Silence.{reads_are_silent, runs_are_silent}
use Rattle.pipe_core.proofs.host_runs.laws.reads_are_silent.Goals as goal

pub returns : goal.returns
returns c = record { clock = reads_are_silent; runs = runs_are_silent }
