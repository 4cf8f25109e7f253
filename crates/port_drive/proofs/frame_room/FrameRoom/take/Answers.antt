use Rattle.std.proofs.Common.{List, drop, ap, ◌∙◌, arith}
use Rattle.beat_core.specs.Ports.{Offered, offered}
use Rattle.port_drive.proofs.RoomLaws.{room_taken}
use Rattle.port_drive.proofs.frame_room.FrameRoom.take.Goals as goal

pub returns : goal.returns
returns c =
    let s = c.self.inside in
    room_taken (offered s.ifindex s.time) s.at s.len c.min.result s.buffer.items c.self.invariant.0 (omega (arith, c.self.invariant.1, c.self.invariant.2)) c.min.ensures ∙ ap (λ (l : List Offered). drop 1 l) c.self.view_is
