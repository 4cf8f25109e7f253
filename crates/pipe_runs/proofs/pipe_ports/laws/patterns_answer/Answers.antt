use Rattle.pipe_runs.proofs.PipePorts.Answers.{runs_are_answers, patterns_answer}
use Rattle.pipe_runs.proofs.pipe_ports.laws.patterns_answer.Goals as goal

pub returns : goal.returns
returns c = record { runs = runs_are_answers; patterns = patterns_answer c.runs_rest.ensures.complete c.runs_in_turn.ensures.reads c.patterns_may_come.ensures.come }
