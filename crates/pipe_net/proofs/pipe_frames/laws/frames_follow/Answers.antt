use Rattle.pipe_net.proofs.PipeFrames.Beginning.{frames_begin}
use Rattle.pipe_net.proofs.PipeFrames.Following.{frames_follow}
use Rattle.pipe_net.proofs.pipe_frames.laws.frames_follow.Goals as goal

pub returns : goal.returns
returns c = record { clock = frames_follow c.sound.ensures.stays; first = frames_begin c.sound.ensures.starts }
