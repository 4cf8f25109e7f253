use Rattle.std.proofs.Common.{◌≡◌, ◌+◌, ◌≤◌, Some, min, sym, ap, ◌∙◌, subst, arith}
use Rattle.realization.proofs.beat_core_laws.WordLaws.{length-low_bytes}
use Rattle.pipe_core.specs.FrameQueue.{FrameQueue, came_bytes}
use Rattle.pipe_core.specs.declared.arrived.TheConstants.{FRAME_ROOM}
use Rattle.pipe_core.proofs.queue.Queue.gather.Goals as goal

pub append-requires : goal.append-requires
append-requires c =
    let x = c.args.beat.now in
    let part : c.args.self.now.part ≡ Some c.in-Some.arrived = sym (ap (λ (q : FrameQueue). q.part) c.self.view_is) ∙ sym c.take.ensures.value ∙ c.in-Some.is in
    let room : came_bytes (Some c.in-Some.arrived) + min x.bytes 8 ≤ FRAME_ROOM = subst (λ p. came_bytes p + min x.bytes 8 ≤ FRAME_ROOM) part c.requires.room in
    omega (arith, room, length-low_bytes (min x.bytes 8) x.word)
