use Rattle.pipe_core.proofs.Forwarding.{stays_forward, ends_without_conflicts}
use Rattle.pipe_core.specs.SequentialOrder.{KeepsSequential}
use Rattle.pipe_core.proofs.laws.ends_without_conflicts.Goals as goal

pub returns : goal.returns
returns c =
    let reload = c.nothing_must_reload.ensures in
    let keeps : KeepsSequential = c.runs_in_turn.ensures.clock in
    record {
      forward = stays_forward reload keeps c.right.ensures.always c.computed.ensures.always c.loads_tables.ensures c.tables_stand.ensures c.change_causes.ensures.clock c.change_causes.ensures.begins c.found.ensures.clock c.found.ensures.begins;
      ends = ends_without_conflicts reload keeps c.right.ensures.always c.computed.ensures.always c.loads_tables.ensures c.tables_stand.ensures c.change_causes.ensures.clock c.change_causes.ensures.begins c.found.ensures.clock c.found.ensures.begins c.commits.ensures.unsent;
    }
