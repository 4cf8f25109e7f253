use Rattle.std.proofs.Common.{◌<◌, ◌≡◌, ◌/◌, ◌+ℤ◌, length, ◌∙◌, Some, arith, w16, w64}
use Rattle.std.proofs.lemmas.Int.{to_z-of_z}
use Rattle.xdp_machine.specs.Memory.{in_stack, bytes_in}
use Rattle.xdp_state.proofs.Slots.{from_stack-at}
use Rattle.xdp_state.proofs.stack.Stack.load.Goals as goal

pub returns : goal.returns
returns c =
    let below : c.in_ok-at.at / 8 < length c.self.inside.slots = omega (arith, c.in_ok-at.ensures.inside) in
    let at_is : Some c.in_ok-at.at ≡ in_stack (c.args.o +ℤ c.args.offset) (bytes_in c.args.size) =
    rw (to_z-of_z w64 c.args.o c.ranges.o, to_z-of_z w16 c.args.offset c.ranges.offset) at c.in_ok-at.ensures.value in
    rw (← c.self.view_is) (c.from_slot.ensures ∙ from_stack-at c.self.inside.slots (c.args.o +ℤ c.args.offset) c.args.size c.in_ok-at.at c.index-self-at.result at_is below)
