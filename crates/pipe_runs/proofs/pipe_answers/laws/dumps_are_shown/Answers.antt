use Rattle.pipe_runs.proofs.PipeAnswers.Dumps.{runs_go_on, dumps_are_shown}
use Rattle.pipe_runs.proofs.pipe_answers.laws.dumps_are_shown.Goals as goal

pub returns : goal.returns
returns c = record { runs = runs_go_on c.reads_are_right.ensures.clock c.reads_are_right.ensures.first; dumps = dumps_are_shown c.dumps_maps.ensures.maps }
