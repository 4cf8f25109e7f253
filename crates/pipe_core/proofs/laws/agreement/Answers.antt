use Rattle.pipe_core.proofs.Agreeing.{entering}
use Rattle.pipe_core.proofs.MarkedBy.{marking}
use Rattle.pipe_core.proofs.laws.agreement.Goals as goal

pub returns : goal.returns
returns c = record { entering = entering c.reads_keep.ensures c.rows_rise.ensures; marking = marking c.unmoved.ensures }
