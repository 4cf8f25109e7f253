use Rattle.pipe_core.proofs.Sending.{always_sends_back}
use Rattle.pipe_core.proofs.laws.sends_back.Goals as goal

pub returns : goal.returns
returns c = always_sends_back
