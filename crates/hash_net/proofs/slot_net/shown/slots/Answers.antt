use Rattle.std.proofs.Common.{sym, subst}
use Rattle.frame_net.proofs.FormLaws.{same_block}
use Rattle.hash_net.specs.SlotNet.Shown.{IsSlots, slots_block}
use Rattle.hash_net.proofs.SlotNet.ShownLemmas.{is_slots}
use Rattle.hash_net.proofs.slot_net.shown.slots.Goals as goal

pub returns : goal.returns
returns g c =
    let a = c.args in
    let r = c.requires in
    subst (IsSlots a.part a.of a.decl.now a.bits) (sym (same_block (slots_block a.of a.decl.now a.bits) _ _ _ _ c.new.ensures.items c.new-2.ensures.items c.in_ok-wires.ensures c.in_ok-statement.ensures))
    (is_slots a.part a.of a.decl.now a.bits r.some r.most r.room)
