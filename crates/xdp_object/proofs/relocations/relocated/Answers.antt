use Rattle.std.proofs.Common.{◌∙◌, drop, length, arith}
use Rattle.xdp_object.proofs.Places.{places_are}
use Rattle.xdp_object.proofs.relocations.relocated.Goals as goal

pub returns : goal.returns
returns c =
    places_are c.args.view.now c.args.function.now c.note_all.new.places (drop (length c.note_all.new.places) c.in_ok-places.places.items) c.in_ok-places.places.len
    (c.note_all.ensures.length ∙ c.deref_mut.ensures.len) c.in_ok-places.ensures.len
    (λ p below. c.note_all.ensures.said p (omega (arith, below, c.deref_mut.ensures.len)))
