use Rattle.pipe_runs.proofs.PipeAnswers.Going.{right_actions, go_on, begin_going, runs_are_right}
use Rattle.pipe_runs.proofs.pipe_answers.laws.reads_are_right.Goals as goal

pub returns : goal.returns
returns c =
    let actions = right_actions c.right.ensures.action in
    let on = go_on c.right.ensures.action c.in_order.ensures.clock c.right.ensures.clock c.keys_stay.ensures.clock c.reads_are_silent.ensures.clock in
    let first = begin_going c.in_order.ensures.always c.right.ensures.always c.keys_stay.ensures.first in
    record { actions = actions; clock = on; first = first; runs = runs_are_right actions on first }
