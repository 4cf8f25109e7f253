use Rattle.std.proofs.Common.{refl}
use Rattle.net_core.specs.View.{wire_of}
use Rattle.clock_sim.proofs.ItemLaws.{at_item, take_item}
use Rattle.clock_sim.proofs.WireLemmas.{AddsOne, wiring_none, wiring_first, wiring_more}
use Rattle.clock_sim.proofs.wires.add_wires.Goals as goal

pub loop-wire-init : goal.loop-wire-init
loop-wire-init c = wiring_none _ _ _ c.requires.none c.requires.operands c.requires.typed

pub right_value_of-requires-clause-typed : goal.right_value_of-requires-clause-typed
right_value_of-requires-clause-typed c =
    let e = at_item wire_of c.args.all.now c.loop-wire.wire-index c.wire-item.result c.loop-wire-test.true c.wire-item.is in
    wiring_first _ _ _ _ _ _ _ _ _ e c.loop-wire.invariant

pub loop-wire-preserved : goal.loop-wire-preserved
loop-wire-preserved c =
    let e = at_item wire_of c.args.all.now c.loop-wire.wire-index c.wire-item.result c.loop-wire-test.true c.wire-item.is in
    let e' = take_item wire_of c.args.all.now c.loop-wire.wire-index c.wire-item.result c.loop-wire-test.true c.wire-item.is in
    let adds : AddsOne c.loop-wire.operands _ c.in_ok-operand.operand = record { ports = refl; registers = refl; memories = refl; wires = c.in_ok-push.ensures.items } in
    wiring_more _ _ _ _ _ _ c.in_ok-operand.operand _ _ _ _ _ _ e e' adds c.in_ok-operand.ensures.adds c.in_ok-operand.ensures.width c.in_ok-operand.ensures.values c.loop-wire.invariant
