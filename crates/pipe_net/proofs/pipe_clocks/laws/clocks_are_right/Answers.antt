use Rattle.pipe_net.proofs.PipeClocks.RightClocks.{reads_are_right, empty_is_right}
use Rattle.pipe_net.proofs.pipe_clocks.laws.clocks_are_right.Goals as goal

pub returns : goal.returns
returns c = record { reads = reads_are_right c.right.ensures.action; empty = empty_is_right }
