use Rattle.pipe_net.proofs.PipeTurns.ActionShown as shown
use Rattle.pipe_net.proofs.PipeTurns.TargetShown as targets
use Rattle.pipe_net.proofs.pipe_turns.laws.action_is_shown.Goals as goal

pub returns : goal.returns
returns c = record { action = shown.action_is_shown c.records_alone.ensures; targets = targets.targets_are_shown }
