use Rattle.std.proofs.Common.{sym, ap, subst}
use Rattle.overlay_net.specs.cell_nets.Wires.{wires_of}
use Rattle.commit_net.specs.Wholes.{IsSlotPart}
use Rattle.commit_net.proofs.GatherLemmas.{gives_from}
use Rattle.commit_net.proofs.WholeLemmas.{slot_part}
use Rattle.commit_net.proofs.whole.commit_slot.Goals as goal

pub returns : goal.returns
returns g c =
    let a = c.args in
    let ns = a.sites.now in
    let slot = c.in_ok-slot.slot in
    subst (IsSlotPart a.part a.bits ns slot) (sym c.in_ok-block.ensures) (slot_part a.part a.bits ns slot (wires_of c.slot_net.new.wires.items) (λ p t taken h j. gives_from (ap wires_of c.new-wires.ensures.items) (c.in_ok-slot.ensures p t taken h j)))
