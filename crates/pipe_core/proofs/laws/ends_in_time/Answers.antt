use Rattle.pipe_core.proofs.Timing.{ends_in_time, ends_late}
use Rattle.pipe_core.proofs.laws.ends_in_time.Goals as goal

pub returns : goal.returns
returns c = record {
  full = ends_in_time c.right.ensures.clock c.loads_tables.ensures;
  late = ends_late c.right.ensures.clock c.loads_tables.ensures;
}
