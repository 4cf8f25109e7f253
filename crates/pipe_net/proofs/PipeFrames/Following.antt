-- A clock of the parts of frames.
use Rattle.control_net.specs.Control.{StaysSound}
use Rattle.pipe_net.specs.PipeFrames.Following.{FramesFollow}
use Rattle.pipe_net.proofs.PipeFrames.Seeing.{IsSeen}
use Rattle.pipe_net.proofs.PipeFrames.Stepping.{frames_go}
use Rattle.pipe_net.proofs.PipeFrames.Showing.{frames_shown}

pub frames_follow : StaysSound → FramesFollow
frames_follow stays l d sized has_bytes parts listed i s ss v given ns stored held sees says =
    let h : IsSeen l d i s ss v = record { sized = sized; has_bytes = has_bytes; parts = parts; listed = listed; stored = stored; given = given; packet_numbers = ns; held = held; sees = sees; says = says } in
    (frames_shown l d i s ss v h, λ come. frames_go l d i s ss v h come stays)
