use Rattle.std.proofs.Common.{◌≡◌, ℕ, List, length, take, refl, ap, ◌∙◌, arith}
use Rattle.std.specs.Prelude.{map}
use Rattle.std.proofs.lemmas.List.{take_at, with_items_is}
use Rattle.beat_core.specs.Beats.{beats_of}
use Rattle.beat_core.specs.Ports.{offered}
use Rattle.port_drive.proofs.frame_room.FrameRoom.set.Goals as goal

pub returns : goal.returns
returns c =
    let frame = c.args.frame.now in
    let buffer = c.self.inside.buffer in
    let count : length c.overwrite.new.buffer ≡ buffer.len = omega (arith, c.overwrite.auto.buffer, c.deref_mut.ensures.len, buffer.ok.0) in
    ap (λ (l : List ℕ). map (offered c.args.ifindex c.args.time) (beats_of (take (length frame) l))) (with_items_is buffer c.overwrite.new.buffer count ∙ c.overwrite.ensures)
    ∙ ap (λ (l : List ℕ). map (offered c.args.ifindex c.args.time) (beats_of l)) (take_at frame _ (length frame) refl)
