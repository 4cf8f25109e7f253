use Rattle.std.proofs.Common.{[], ◌∷◌, ◌++◌, ◌∙◌, length, map, ap, arith}
use Rattle.std.proofs.lemmas.List.{length-map, map-append, length-append}
use Rattle.net_core.specs.View.{tree_of}
use Rattle.overlay_net.specs.hazard_core.Commits.{word_count}
use Rattle.cell_nets.specs.Operands.{IsAvailable}
use Rattle.hash_net.specs.SlotNet.Slots.{slots_of, operands_of, IsSlot}
use Rattle.hash_net.specs.SlotNet.Choosing.{is_under}
use Rattle.hash_net.proofs.SlotNet.TestLemmas.{no_tests, slot_all, item_push, of_key, of_slots}
use Rattle.hash_net.proofs.slot_net.testing.key_tests.Goals as goal

pub key_test-requires-clause-slot : goal.key_test-requires-clause-slot
key_test-requires-clause-slot g c = slot_all (IsSlot c.args.bytes) c.args.slots.now c.loop-slot.slot-index c.slot-item.result (omega arith) c.slot-item.is c.requires.slots

pub loop-slot-init : goal.loop-slot-init
loop-slot-init g c = record { count = ap length c.new-tests.ensures.items; tests = no_tests _ _ 0 (map tree_of c.new-tests.result.items) (ap (λ l. length (map tree_of l)) c.new-tests.ensures.items) }

pub loop-slot-preserved : goal.loop-slot-preserved
loop-slot-preserved g c =
    let old = c.loop-slot.tests.items in
    let e = c.in_ok-key_test.field-0 in
    let key = c.args.key.now in
    let slots = c.args.slots.now in
    record {
      count = omega (arith, ap length c.in_ok-push.ensures.items, length-append old (e ∷ []), c.loop-slot.invariant.count);
      tests = item_push (key ++ operands_of (slots_of slots)) (λ v n. is_under v c.args.bytes key n (word_count c.args.bytes)) slots c.loop-slot.slot-index c.slot-item.result (map tree_of old) (map tree_of c.push.new.self.items) (tree_of e)
          (length-map old tree_of ∙ c.loop-slot.invariant.count) (omega arith) c.slot-item.is (ap (map tree_of) c.in_ok-push.ensures.items ∙ map-append tree_of old (e ∷ [])) (λ ins. of_slots (IsAvailable ins) key (slots_of slots)) c.loop-slot.invariant.tests
          (λ ins all mine. c.in_ok-key_test.ensures ins mine (of_key (IsAvailable ins) key (slots_of slots) all));
    }

pub returns : goal.returns
returns g c = record { count = omega (arith, c.loop-slot.invariant.count); tests = c.loop-slot.invariant.tests }
