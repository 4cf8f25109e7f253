use Rattle.std.proofs.Common.{sym, ◌∙◌, arith}
use Rattle.beat_core.specs.Ports.{offered}
use Rattle.port_drive.proofs.RoomLaws.{room_over, room_left}
use Rattle.port_drive.proofs.frame_room.FrameRoom.is_over.Goals as goal

pub returns-clause-over : goal.returns-clause-over
returns-clause-over c = λ e.
    let s = c.self.inside in
    sym c.self.view_is ∙ room_over (offered s.ifindex s.time) s.at s.len s.buffer.items e

pub returns-clause-left : goal.returns-clause-left
returns-clause-left c = λ e none.
    let s = c.self.inside in
    room_left (offered s.ifindex s.time) s.at s.len s.buffer.items c.self.invariant.0 (omega (arith, c.self.invariant.1, c.self.invariant.2)) e (c.self.view_is ∙ none)
