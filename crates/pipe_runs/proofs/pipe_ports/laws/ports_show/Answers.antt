use Rattle.pipe_runs.proofs.PipePorts.Ports.{ports_show_clocks}
use Rattle.pipe_runs.proofs.PipePorts.Histories.{ports_show_histories}
use Rattle.pipe_runs.proofs.pipe_ports.laws.ports_show.Goals as goal

pub returns : goal.returns
returns c = record { clock = ports_show_clocks; histories = ports_show_histories (record { fit = c.values_fit.ensures; action = c.runs_in_turn.ensures.reads; reads = c.reads_are_silent.ensures.clock }) }
