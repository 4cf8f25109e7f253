use Rattle.std.proofs.Common.{◌≡◌, ◌∙◌, get_or, length, sym, subst}
use Rattle.std.proofs.lemmas.List.{length-map}
use Rattle.overlay_net.specs.hazard_core.Tables.{free_slot}
use Rattle.cell_nets.specs.Wires.{wires_of}
use Rattle.hash_net.specs.declared.slot_net.choosing.Numbering.TheVariants.{Slots}
use Rattle.hash_net.specs.SlotNet.Slots.{slot_operands, slots_of, operands_of, slot_past, ShowSlots}
use Rattle.hash_net.specs.SlotNet.Choosing.{first_passed, is_used}
use Rattle.hash_net.proofs.SlotNet.ChainLemmas.{first_gives}
use Rattle.hash_net.proofs.SlotNet.UnderLemmas.{first_free}
use Rattle.hash_net.proofs.slot_net.finding.free_slot.Goals as goal

pub returns : goal.returns
returns g c = λ table d.
    let ns = slots_of c.args.slots.now in
    let count = length c.in_ok-tests.tests.items in
    first_gives c.args.part (wires_of c.args.wires.now.items) (wires_of c.first_of.new.wires.items) (operands_of ns) (λ v. ShowSlots v d table ns) (λ v. first_passed Slots (λ n. is_used v (get_or ns n slot_past)) (length c.args.slots.now) 0 count)
    (λ v. free_slot table) c.args.bits c.in_ok-out.out (c.in_ok-out.ensures (operands_of ns) (λ n v. is_used v (get_or ns n slot_past)) c.in_ok-tests.ensures.tests)
    (λ v h. subst (λ k. first_passed Slots (λ n. is_used v (get_or ns n slot_past)) k 0 count ≡ free_slot table) c.in_ok-tests.ensures.count (first_free v d table ns count (length-map c.args.slots.now slot_operands ∙ sym c.in_ok-tests.ensures.count) h))
