use Rattle.pipe_core.proofs.Carrying.{keeps_computed, computed}
use Rattle.pipe_core.proofs.laws.computed.Goals as goal

pub returns : goal.returns
returns c = record { clock = keeps_computed c.rows_rise.ensures; always = computed c.rows_rise.ensures }
