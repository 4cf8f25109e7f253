use Rattle.pipe_runs.proofs.PipePorts.Patterns.{patterns_may_come, patterns_go_on}
use Rattle.pipe_runs.proofs.pipe_ports.laws.patterns_may_come.Goals as goal

pub returns : goal.returns
returns c = record { come = patterns_may_come c.ports_show.ensures.clock c.ports_show.ensures.histories; on = patterns_go_on c.ports_show.ensures.clock c.ports_show.ensures.histories }
