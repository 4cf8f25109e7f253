use Rattle.pipe_net.proofs.PipeTurns.HostShown as shown
use Rattle.pipe_net.proofs.pipe_turns.laws.host_is_shown.Goals as goal

pub returns : goal.returns
returns c = shown.host_is_shown c.writes.ensures.follows
