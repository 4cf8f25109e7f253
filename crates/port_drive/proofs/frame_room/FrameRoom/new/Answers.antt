use Rattle.std.proofs.Common.{List, ap}
use Rattle.std.specs.Prelude.{map}
use Rattle.beat_core.specs.declared.beat.Beat.{Beat}
use Rattle.beat_core.specs.Ports.{offered}
use Rattle.beat_core.proofs.BeatLaws.{beats_of-nil}
use Rattle.port_drive.proofs.frame_room.FrameRoom.new.Goals as goal

pub returns : goal.returns
returns c = ap (λ (bs : List Beat). map (offered 0 0) bs) beats_of-nil
