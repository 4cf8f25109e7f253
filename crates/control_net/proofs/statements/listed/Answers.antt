use Rattle.std.proofs.Common.{map, ap}
use Rattle.block_core.proofs.list_laws_laws.OneMoreLaws.{pushed}
use Rattle.net_core.specs.View.{statement_of}
use Rattle.control_net.proofs.statements.listed.Goals as goal

pub returns : goal.returns
returns g c =
    let k0 = ap (map statement_of) c.new-all.ensures.items in
    let k1 = pushed k0 c.in_ok-add.ensures c.in_ok-given.ensures in
    let k2 = pushed k1 c.in_ok-add-2.ensures c.in_ok-answered.ensures in
    let k3 = pushed k2 c.in_ok-add-3.ensures c.in_ok-injected.ensures in
    let k4 = pushed k3 c.in_ok-add-4.ensures c.in_ok-gathered.ensures in
    let k5 = pushed k4 c.in_ok-add-5.ensures c.in_ok-passed.ensures in
    let k6 = pushed k5 c.in_ok-add-6.ensures c.in_ok-resumed.ensures in
    let k7 = pushed k6 c.in_ok-add-7.ensures c.in_ok-moved.ensures in
    let k8 = pushed k7 c.in_ok-add-8.ensures c.in_ok-laps.ensures in
    pushed k8 c.in_ok-add-9.ensures c.in_ok-slots.ensures
