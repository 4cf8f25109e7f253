use Rattle.std.proofs.Common.{◌∙◌, All, sym, ap, subst, slice_index}
use Rattle.overlay_net.specs.cell_core.declared.operator.Operator.TheVariants.{Phi}
use Rattle.cell_nets.specs.Operands.{IsOperand}
use Rattle.cell_nets.specs.Parts.{worth}
use Rattle.cell_nets.specs.Wires.{wires_of, always, Gives}
use Rattle.row_net.specs.Table.{Stands}
use Rattle.overlay_net.specs.SiteOperands.Pointers.{pointer_number}
use Rattle.row_net.specs.SitePlace.Pointing.{made_pointer}
use Rattle.row_net.specs.SitePlace.PointerNets.{AreChoices, GivesPointer}
use Rattle.row_net.proofs.SitePlace.PointingLemmas.{choices_all, at_hand, joined}
use Rattle.row_net.proofs.site_place.pointing.pointer.Goals as goal

pub phi_wires-requires-clause-operands : goal.phi_wires-requires-clause-operands
phi_wires-requires-clause-operands g c =
    let table = c.args.table.now in
    let those = c.args.pointers.now in
    let args = c.in_ok-args-in-Phi.args.items in
    let choices = subst (λ l. AreChoices table those l args) c.deref-in-Phi.ensures c.in_ok-args-in-Phi.ensures in
    subst (All IsOperand) (sym c.deref-in-Phi-2.ensures.value) (choices_all table those IsOperand c.requires.operands c.requires.pointers c.args.cell.now.ins.items args choices)

pub returns-in-Wire : goal.returns-in-Wire
returns-in-Wire g c =
    let those = c.args.pointers.now in
    let ins = c.args.cell.now.ins.items in
    let out = c.standing.result in
    let s = subst (λ l. Stands those (slice_index l 0) out) c.deref.ensures c.standing.ensures in
    at_hand c.args.part c.args.bits c.args.cell.now.op ins c.args.table.now those (wires_of c.args.wires.now.items) out (c.requires.pointers (slice_index ins 0) out s) (c.requires.wide (slice_index ins 0) out s) (λ all t. t (slice_index ins 0) out s)
    (λ v val at q. q (slice_index ins 0) out s ∙ ap (λ o. pointer_number (made_pointer val at ins o)) (sym c.in-Wire.is))

pub returns-in_ok-out-in-Phi : goal.returns-in_ok-out-in-Phi
returns-in_ok-out-in-Phi g c =
    let p = c.args.part in
    let bits = c.args.bits in
    let table = c.args.table.now in
    let those = c.args.pointers.now in
    let ins = c.args.cell.now.ins.items in
    let args = c.in_ok-args-in-Phi.args.items in
    let old = wires_of c.args.wires.now.items in
    let new = wires_of c.phi_wires.new.wires.items in
    let out = c.in_ok-out-in-Phi.out in
    let choices = subst (λ l. AreChoices table those l args) c.deref-in-Phi.ensures c.in_ok-args-in-Phi.ensures in
    subst (λ o. GivesPointer p bits o ins table those old new out) (sym c.in-Phi.is)
    (joined p bits ins table those old new args out choices c.requires.wide (λ packet. subst (λ l. Gives p old new l always (worth packet Phi l bits) bits out) c.deref-in-Phi-2.ensures.value (c.in_ok-out-in-Phi.ensures packet)))
