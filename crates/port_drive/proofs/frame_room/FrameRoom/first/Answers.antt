use Rattle.std.proofs.Common.{◌≡◌, ◌-◌, Some, List, drop, take, slice_get, sym, ap, ◌∙◌, arith}
use Rattle.std.specs.Prelude.{map}
use Rattle.beat_core.specs.declared.beat.Beat.{Beat}
use Rattle.beat_core.specs.Beats.{first_beat}
use Rattle.beat_core.specs.Ports.{Offered, offered}
use Rattle.beat_core.proofs.LeftLaws.{left_none, left_some}
use Rattle.port_drive.proofs.frame_room.FrameRoom.first.Goals as goal

pub returns-then-self-clause-first : goal.returns-then-self-clause-first
returns-then-self-clause-first c =
    let s = c.self.inside in
    ap (λ (l : List Offered). slice_get l 0) (sym (ap (λ (bs : List Beat). map (offered s.ifindex s.time) bs) (left_none s.at s.len s.buffer.items c.if-self.true)) ∙ c.self.view_is)

pub returns-clause-first : goal.returns-clause-first
returns-clause-first c =
    let s = c.self.inside in
    let beat : c.first_beat-beat.result ≡ first_beat (take (s.len - s.at) (drop s.at s.buffer.items)) = c.first_beat-beat.ensures ∙ ap (λ l. first_beat (take (s.len - s.at) (drop s.at l))) c.deref.ensures.value in
    ap (λ (b : Beat). Some (offered s.ifindex s.time b)) beat
    ∙ ap (λ (l : List Offered). slice_get l 0) (sym (ap (λ (bs : List Beat). map (offered s.ifindex s.time) bs) (left_some s.at s.len s.buffer.items c.self.invariant.0 c.if-self.false (omega (arith, c.self.invariant.1, c.self.invariant.2)))) ∙ c.self.view_is)
