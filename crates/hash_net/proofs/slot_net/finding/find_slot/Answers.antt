use Rattle.std.proofs.Common.{◌++◌, ◌∙◌, get_or, length, sym}
use Rattle.std.proofs.lemmas.List.{length-map}
use Rattle.overlay_net.specs.hazard_core.Commits.{word_count}
use Rattle.overlay_net.specs.hazard_core.StageValues.{slot_pointer}
use Rattle.overlay_net.specs.SiteOperands.Pointers.{pointer_number}
use Rattle.cell_nets.specs.Wires.{wires_of}
use Rattle.hash_net.specs.declared.slot_net.choosing.Numbering.TheVariants.{Pointers}
use Rattle.hash_net.specs.SlotNet.Slots.{slot_operands, slots_of, operands_of, slot_past, ShowSlots, HoldsKey}
use Rattle.hash_net.specs.SlotNet.Choosing.{first_passed, is_under}
use Rattle.hash_net.proofs.SlotNet.ChainLemmas.{first_gives}
use Rattle.hash_net.proofs.SlotNet.UnderLemmas.{found_is}
use Rattle.hash_net.proofs.slot_net.finding.find_slot.Goals as goal

pub returns : goal.returns
returns g c = λ table bytes keyed.
    let ns = slots_of c.args.slots.now in
    let key = c.args.key.now in
    let d = c.args.decl.now in
    let args = key ++ operands_of ns in
    let count = length c.in_ok-tests.tests.items in
    first_gives c.args.part (wires_of c.args.wires.now.items) (wires_of c.first_of.new.wires.items) args (λ v. ShowSlots v d table ns × HoldsKey v d key bytes) (λ v. first_passed Pointers (λ n. is_under v d.key key (get_or ns n slot_past) (word_count d.key)) 0 0 count)
    (λ v. pointer_number (slot_pointer table bytes)) c.args.bits c.in_ok-out.out (c.in_ok-out.ensures args (λ n v. is_under v d.key key (get_or ns n slot_past) (word_count d.key)) c.in_ok-tests.ensures.tests)
    (λ v h. found_is v d key bytes table ns count (length-map c.args.slots.now slot_operands ∙ sym c.in_ok-tests.ensures.count) keyed c.requires.words h)
