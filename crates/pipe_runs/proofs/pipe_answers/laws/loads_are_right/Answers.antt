use Rattle.pipe_runs.proofs.PipeAnswers.Loading.{empty_runs, loaded_runs}
use Rattle.pipe_runs.proofs.pipe_answers.laws.loads_are_right.Goals as goal

pub returns : goal.returns
returns c =
    let empty = empty_runs c.in_order.ensures.clock c.in_order.ensures.always in
    record { empty = empty; runs = loaded_runs empty c.reads_are_right.ensures.runs c.loads_maps.ensures.traces c.loads_fit.ensures }
