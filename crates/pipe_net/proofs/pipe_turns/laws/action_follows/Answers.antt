use Rattle.pipe_net.proofs.PipeTurns.Followed as followed
use Rattle.pipe_net.proofs.pipe_turns.laws.action_follows.Goals as goal

pub returns : goal.returns
returns c = record { clock = followed.action_follows c.records_alone.ensures; first = followed.action_begins }
