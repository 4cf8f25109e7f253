use Rattle.std.proofs.Common.{◌<◌, ◌≡◌, ◌/◌, ◌+ℤ◌, length, Some, arith, w16, w64}
use Rattle.std.proofs.lemmas.Int.{to_z-of_z}
use Rattle.xdp_machine.specs.Memory.{in_stack, bytes_in}
use Rattle.xdp_state.proofs.Slots.{to_stack-at}
use Rattle.xdp_state.proofs.stack.Stack.store.Goals as goal

pub returns : goal.returns
returns c =
    let below : c.in-Some.at / 8 < length c.self.inside.slots = omega (arith, c.in-Some.ensures.inside) in
    let at_is : Some c.in-Some.at ≡ in_stack (c.args.o +ℤ c.args.offset) (bytes_in c.args.size) =
    rw (to_z-of_z w64 c.args.o c.ranges.o, to_z-of_z w16 c.args.offset c.ranges.offset) at c.in-Some.ensures.value in
    rw (← c.self.view_is) (to_stack-at c.self.inside.slots (c.args.o +ℤ c.args.offset) c.args.size c.in-Some.at c.index-self-at.result c.args.value.now c.in-Some-to_slot.slot at_is below c.in-Some-to_slot.ensures)
