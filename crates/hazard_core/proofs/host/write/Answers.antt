use Rattle.std.proofs.Common.{◌∙◌, ◌<◌, List, length, ap, arith}
use Rattle.std.proofs.lemmas.List.{get_or_read}
use Rattle.hazard_core.specs.Tables.{Slot, no_slot, slot_at, table_at}
use Rattle.hazard_core.proofs.host.write.Goals as goal

pub put-requires-clause-shape : goal.put-requires-clause-shape
put-requires-clause-shape c =
    let t = c.args.tables.now in
    let n : c.args.access.index < length c.slots-slots.result.now = c.if-at-slots.true in
    let here = get_or_read c.slots-slots.result.now _ _ n c.index-slots-at.is no_slot in
    let same = here ∙ ap (λ (xs : List Slot). slot_at xs c.args.access.index) c.slots-slots.ensures.slots in
    let m : c.args.access.index < length (table_at t c.args.access.map) = omega (arith, n, ap length c.slots-slots.ensures.slots) in
    let shape = c.slots-slots.ensures.shaped.each c.args.access.map c.args.access.index c.requires m in
    record {
      key = c.written_word-slot.ensures.key ∙ ap (λ (s : Slot). length s.key) same ∙ shape.key;
      value = c.written_word-slot.ensures.value ∙ ap (λ (s : Slot). length s.value) same ∙ shape.value;
    }
