use Rattle.pipe_core.proofs.HostRuns.Dumping.{dumps_maps, hold_sound_values}
use Rattle.pipe_core.proofs.host_runs.laws.dumps_maps.Goals as goal

pub returns : goal.returns
returns c = record { maps = dumps_maps; values = hold_sound_values }
