use Rattle.pipe_core.proofs.Carrying.{computed}
use Rattle.pipe_core.proofs.Overlapping.{keeps_sequential, runs_in_turn, final_maps}
use Rattle.pipe_core.specs.SequentialOrder.{KeepsSequential}
use Rattle.pipe_core.proofs.laws.runs_in_turn.Goals as goal

pub returns : goal.returns
returns c =
    let keeps : KeepsSequential = keeps_sequential c.sees_earlier.ensures c.in_turn.ensures c.maps_in_turn.ensures.maps c.maps_in_turn.ensures.reads c.rows_rise.ensures c.right.ensures.clock in
    record {
      clock = keeps;
      runs = runs_in_turn keeps c.right.ensures.always (computed c.rows_rise.ensures) c.loads_tables.ensures c.tables_stand.ensures;
      last = final_maps keeps c.right.ensures.always (computed c.rows_rise.ensures) c.loads_tables.ensures c.tables_stand.ensures;
    }
