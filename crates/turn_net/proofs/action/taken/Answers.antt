use Rattle.std.proofs.Common.{◌∙◌, ◌∷◌, [], ◌++◌, sym, ap, arith}
use Rattle.std.proofs.lemmas.List.{map_more, take_all}
use Rattle.turn_net.specs.Steps.{slot_value, taken_values}
use Rattle.turn_net.proofs.action.taken.Goals as goal

pub loop-slot-preserved : goal.loop-slot-preserved
loop-slot-preserved g c =
    let l = c.loop-slot in
    let shape = c.args.shape.now in
    let a = c.slot-item.result in
    c.in_ok-push-2.ensures.items ∙ (λ i. l.invariant i ++ slot_value shape.slot_bits (c.slot-item.is i) ∷ []) ∙ ap (λ k. slot_value shape.bits c.args.done ∷ k) (sym (map_more (slot_value shape.slot_bits) c.args.slots.now l.slot-index a (omega arith)))

pub returns : goal.returns
returns g c = c.loop-slot.invariant ∙ ap (taken_values c.args.shape.now c.args.done) (take_all c.loop-slot.slot-index c.args.slots.now (omega arith))
