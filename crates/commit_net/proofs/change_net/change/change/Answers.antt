use Rattle.std.proofs.Common.{ap, subst, sym}
use Rattle.overlay_net.specs.cell_nets.declared.operand.Operand.TheVariants.{Net}
use Rattle.overlay_net.specs.cell_nets.Wires.{wires_of}
use Rattle.commit_net.specs.ChangeNet.Changes.{IsChange}
use Rattle.commit_net.proofs.ChangeNet.ChainLemmas.{stands_from}
use Rattle.commit_net.proofs.ChangeNet.ChangeLemmas.{change_stands, is_change}
use Rattle.commit_net.proofs.change_net.change.change.Goals as goal

pub returns : goal.returns
returns g c =
    let a = c.args in
    let d = a.decl.now in
    let ns = a.sites.now in
    let key = c.in_ok-key.key.items in
    let presence = c.in_ok-presence.presence in
    let any = c.in_ok-any.any in
    let by_host = c.in_ok-by_host.by_host in
    let x =
    change_stands a.part a.number d a.bits ns a.commits a.host a.slot a.keys.now key presence any by_host (stands_from (ap wires_of c.new-wires.ensures.items) c.in_ok-presence.ensures.stands) c.in_ok-key.ensures.stands c.in_ok-by_host.ensures c.in_ok-any.ensures in
    subst (IsChange a.part a.number d a.bits ns a.commits a.host a.slot a.keys.now (Net a.slot a.bits) key presence any by_host) (sym c.in_ok-block.ensures)
    (is_change a.part a.number d a.bits ns a.commits a.host a.slot a.keys.now key presence any by_host c.requires.bits c.requires.limits c.requires.keys c.requires.operands c.in_ok-key.ensures.operands c.in_ok-key.ensures.count c.in_ok-presence.ensures.operand (wires_of c.any_net.new.wires.items) x)
