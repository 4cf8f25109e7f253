use Rattle.std.proofs.Common.{◌≡◌, ◌-◌, ◌<◌, ◌≤◌, length, get_or, ap, sym, ◌∙◌, arith}
use Rattle.std.proofs.lemmas.List.{length-map}
use Rattle.net_core.specs.View.{netlist_of, wire_of, assign_of}
use Rattle.event_sim.specs.Views.{state_of}
use Rattle.event_sim.proofs.States.{wire_read, assign_read, wire_side, assign_side}
use Rattle.event_sim.proofs.Walks.{wire_found, assign_found}
use Rattle.event_sim.proofs.nets.right_side.Goals as goal

pub right_value_of-requires : goal.right_value_of-requires
right_value_of-requires c =
    let s = state_of c.args.design.now c.args.values.now in
    let f = wire_found c.args.design.now c.as_slice-wires.result.now c.args.net c.index-wires-net.result c.as_slice-wires.ensures.value (omega arith) c.index-wires-net.is in
    wire_read s c.requires.state c.args.net (wire_of c.index-wires-net.result) f.0 f.1

pub value_of-requires : goal.value_of-requires
value_of-requires c =
    let s = state_of c.args.design.now c.args.values.now in
    let d = c.args.design.now in
    let wires = ap length c.as_slice-wires.ensures.value in
    let assigns = ap length c.as_slice-assigns.ensures.value in
    let there = c.requires.there in
    let inside : c.args.net - length c.as_slice-wires.result.now < length c.as_slice-assigns.result.now =
    omega (arith, wires, assigns, there, c.if-net-wires.false, length-map d.wires.items wire_of, length-map d.assigns.items assign_of) in
    let f = assign_found d c.as_slice-assigns.result.now (c.args.net - length c.as_slice-wires.result.now) c.index-assigns-place.result c.as_slice-assigns.ensures.value inside c.index-assigns-place.is in
    assign_read s c.requires.state (c.args.net - length c.as_slice-wires.result.now) (assign_of c.index-assigns-place.result) f.0 f.1

pub returns-then-net-wires : goal.returns-then-net-wires
returns-then-net-wires c =
    let s = state_of c.args.design.now c.args.values.now in
    let f = wire_found c.args.design.now c.as_slice-wires.result.now c.args.net c.index-wires-net.result c.as_slice-wires.ensures.value (omega arith) c.index-wires-net.is in
    c.right_value_of.ensures ∙ sym (wire_side s c.requires.state c.args.net (wire_of c.index-wires-net.result) f.0 f.1)

pub returns : goal.returns
returns c =
    let s = state_of c.args.design.now c.args.values.now in
    let d = c.args.design.now in
    let wires = ap length c.as_slice-wires.ensures.value in
    let assigns = ap length c.as_slice-assigns.ensures.value in
    let there = c.requires.there in
    let inside : c.args.net - length c.as_slice-wires.result.now < length c.as_slice-assigns.result.now =
    omega (arith, wires, assigns, there, c.if-net-wires.false, length-map d.wires.items wire_of, length-map d.assigns.items assign_of) in
    let f = assign_found d c.as_slice-assigns.result.now (c.args.net - length c.as_slice-wires.result.now) c.index-assigns-place.result c.as_slice-assigns.ensures.value inside c.index-assigns-place.is in
    let count : length c.as_slice-wires.result.now ≡ length (netlist_of d).wires = wires ∙ sym (length-map d.wires.items wire_of) in
    let behind : length (netlist_of d).wires ≤ c.args.net = omega (arith, count, c.if-net-wires.false) in
    let at = f.1 ∙ ap (λ n. get_or (netlist_of d).assigns (c.args.net - n) (assign_of c.index-assigns-place.result)) count in
    c.value_of.ensures ∙ sym (assign_side s c.requires.state c.args.net (assign_of c.index-assigns-place.result) behind there at)
