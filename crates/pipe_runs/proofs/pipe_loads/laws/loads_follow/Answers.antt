use Rattle.pipe_runs.proofs.PipeLoads.Loaded.{loads_follow, loads_show}
use Rattle.pipe_runs.proofs.pipe_loads.laws.loads_follow.Goals as goal

pub returns : goal.returns
returns c = record {
  runs = loads_follow c.clocks_go_on.ensures.runs c.tables_follow.ensures.opened c.loads_may_come.ensures.opened c.designs_follow.ensures.runs;
  next = loads_show c.clocks_go_on.ensures.runs c.tables_follow.ensures.opened c.loads_may_come.ensures.opened c.designs_follow.ensures.next;
}
