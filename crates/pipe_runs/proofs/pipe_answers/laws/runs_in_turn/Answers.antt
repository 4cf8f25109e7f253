use Rattle.pipe_runs.proofs.PipeAnswers.Runs.{reads_run, loads_run}
use Rattle.pipe_runs.proofs.pipe_answers.laws.runs_in_turn.Goals as goal

pub returns : goal.returns
returns c =
    let reads = reads_run c.in_order.ensures.always c.runs_in_turn.ensures.runs c.runs_in_turn.ensures.last c.reads_are_silent.ensures.runs in
    record { reads = reads; loads = loads_run reads c.loads_maps.ensures.traces }
