use Rattle.pipe_core.proofs.Committing.{commits_are_writes, late_commits_are_writes, ends_unsent}
use Rattle.pipe_core.specs.SequentialOrder.{KeepsSequential}
use Rattle.pipe_core.proofs.laws.commits.Goals as goal

pub returns : goal.returns
returns c =
    let keeps : KeepsSequential = c.runs_in_turn.ensures.clock in
    record {
      writes = commits_are_writes keeps c.right.ensures.always c.computed.ensures.always c.loads_tables.ensures c.tables_stand.ensures c.ends_in_time.ensures.full;
      late = late_commits_are_writes keeps c.right.ensures.always c.computed.ensures.always c.loads_tables.ensures c.tables_stand.ensures c.ends_in_time.ensures.late;
      unsent = ends_unsent keeps c.right.ensures.always c.computed.ensures.always c.loads_tables.ensures c.tables_stand.ensures c.ends_in_time.ensures.full c.ends_forward.ensures;
    }
