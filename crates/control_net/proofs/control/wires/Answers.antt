use Rattle.std.proofs.Common.{map, ap, ◌∙◌}
use Rattle.net_core.specs.Nets.{TRead}
use Rattle.block_core.specs.View.{block_wire_of}
use Rattle.block_core.proofs.list_laws_laws.OneMoreLaws.{pushed}
use Rattle.control_net.specs.RingNet.Trees.{bit_wire, both}
use Rattle.control_net.proofs.control.wires.Goals as goal

pub returns : goal.returns
returns g c =
    let k0 = ap (map block_wire_of) c.new-all.ensures.items in
    let k1 = pushed k0 c.in_ok-add_wire.ensures (ap bit_wire c.in_ok-ready.ensures) in
    let k2 = pushed k1 c.in_ok-add_wire-2.ensures (ap bit_wire (c.in_ok-over.ensures ∙ (λ i. both (c.read_port.ensures i) (c.read_wire.ensures i)))) in
    let k3 = pushed k2 c.in_ok-add_wire-3.ensures (ap bit_wire (c.in_ok-ends.ensures ∙ (λ i. both (c.read_wire-2.ensures i) (c.read_port-2.ensures i)))) in
    let k4 = pushed k3 c.in_ok-add_wire-4.ensures (ap bit_wire c.in_ok-advances.ensures) in
    let k5 = pushed k4 c.in_ok-add_wire-5.ensures (ap bit_wire c.in_ok-injects.ensures) in
    let k6 = pushed k5 c.in_ok-add_wire-6.ensures (ap bit_wire c.in_ok-exits.ensures) in
    let k7 = pushed k6 c.in_ok-add_wire-7.ensures (ap bit_wire c.in_ok-passes.ensures) in
    let k8 = pushed k7 c.in_ok-add_wire-8.ensures (ap bit_wire c.in_ok-shown.ensures) in
    let k9 = pushed k8 c.in_ok-add_wire-9.ensures (ap bit_wire (c.in_ok-taken.ensures ∙ (λ i. both (c.read_wire-3.ensures i) (c.read_port-3.ensures i)))) in
    pushed k9 c.in_ok-add_wire-10.ensures (ap bit_wire (c.in_ok-gone.ensures ∙ (λ i. both (c.read_wire-4.ensures i) (TRead c.args.nets.now.last))))
