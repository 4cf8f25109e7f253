use Rattle.beat_core.proofs.OrderLaws.{room_after, offers-frames, frames-frames}
use Rattle.beat_core.proofs.laws.frames_in_order.Goals as goal

pub returns : goal.returns
returns c = record { room = room_after; offers = offers-frames; frames = frames-frames }
