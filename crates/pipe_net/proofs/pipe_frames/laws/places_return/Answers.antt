use Rattle.pipe_net.proofs.PipeFrames.Returning.{places_return}
use Rattle.pipe_net.proofs.pipe_frames.laws.places_return.Goals as goal

pub returns : goal.returns
returns c = places_return
