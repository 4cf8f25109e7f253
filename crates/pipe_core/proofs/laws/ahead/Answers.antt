use Rattle.pipe_core.proofs.Carrying.{computed}
use Rattle.pipe_core.specs.Prefix.{SequentialRunsAhead}
use Rattle.pipe_core.proofs.Prefix.{sequential_runs_ahead, always_ahead, whole_where_unmarked, committers_hold_runs, guards_run_ahead}
use Rattle.pipe_core.proofs.laws.ahead.Goals as goal

pub returns : goal.returns
returns c =
    let ahead : SequentialRunsAhead = sequential_runs_ahead c.sees_earlier.ensures c.maps_in_turn.ensures.reads c.reads_keep.ensures c.rows_rise.ensures in
    record {
      now = ahead;
      always = always_ahead ahead c.runs_in_turn.ensures.clock c.right.ensures.always (computed c.rows_rise.ensures) c.loads_tables.ensures c.tables_stand.ensures;
      whole = whole_where_unmarked;
      commits = committers_hold_runs c.sees_earlier.ensures c.maps_in_turn.ensures.reads c.reads_keep.ensures c.rows_rise.ensures;
      guards = guards_run_ahead;
    }
