use Rattle.std.proofs.Common.{map, ap}
use Rattle.block_core.specs.View.{block_wire_of}
use Rattle.block_core.proofs.list_laws_laws.OneMoreLaws.{pushed}
use Rattle.control_net.specs.RingNet.Trees.{bit_wire}
use Rattle.turn_net.proofs.host_net.host.wires.Goals as goal

pub returns : goal.returns
returns g c =
    let k0 = ap (map block_wire_of) c.new-all.ensures.items in
    let k1 = pushed k0 c.in_ok-add_wire.ensures (ap bit_wire c.in_ok-idle.ensures) in
    let k2 = pushed k1 c.in_ok-add_wire-2.ensures (ap bit_wire c.in_ok-ready.ensures) in
    pushed k2 c.in_ok-add_wire-3.ensures (ap bit_wire c.in_ok-writes.ensures)
