use Rattle.pipe_runs.proofs.Meets.{followers_meet}
use Rattle.pipe_runs.proofs.laws.followers_meet.Goals as goal

pub returns : goal.returns
returns c = followers_meet (record {
  clocks = record {
    reads = c.reads_are_silent.ensures.clock;
    silence = c.reads_are_silent.ensures.runs;
    in_time = c.ends_in_time.ensures.full;
    late = c.ends_in_time.ensures.late;
    apart = c.ends_without_conflicts.ensures.ends;
    line = c.line_rate.ensures.full;
    sent = c.line_rate.ensures.late;
    first = c.line_rate.ensures.late_first;
  };
  order = c.in_order.ensures.always;
  fit = c.loads_fit.ensures;
  host = c.loads_may_come.ensures.host;
  in_turn = c.runs_in_turn.ensures.reads;
  go_on = c.dumps_are_shown.ensures.runs;
  dumps = c.dumps_are_shown.ensures.dumps;
  shows = c.ports_show.ensures.clock;
  histories = c.ports_show.ensures.histories;
  patterns = c.patterns_may_come.ensures.come;
  answers = c.patterns_answer.ensures.runs;
  safe = c.patterns_answer.ensures.patterns;
})
