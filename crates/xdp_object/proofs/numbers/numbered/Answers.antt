use Rattle.xdp_object.proofs.Places.{room_left}
use Rattle.xdp_object.proofs.numbers.numbered.Goals as goal

pub bounds-places-place : goal.bounds-places-place
bounds-places-place c = room_left c.args.insns.now c.loop-insn.insn-index c.loop-insn.place _ c.loop-insn-test.true c.loop-insn.invariant.left
