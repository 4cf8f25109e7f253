use Rattle.std.proofs.Common.{[], ◌∷◌, ◌∙◌, length, map, refl, ap, arith}
use Rattle.std.proofs.lemmas.List.{length-map, map-append, length-append}
use Rattle.std.proofs.lemmas.List.Elements.{All-head}
use Rattle.net_core.specs.View.{tree_of}
use Rattle.cell_nets.specs.Operands.{IsOperand, IsAvailable}
use Rattle.cell_nets.proofs.ExpressionPartLaws.{part_of}
use Rattle.hash_net.specs.SlotNet.Slots.{slots_of, operands_of}
use Rattle.hash_net.specs.SlotNet.Choosing.{is_used}
use Rattle.hash_net.proofs.SlotNet.TestLemmas.{no_tests, slot_all, item_push}
use Rattle.hash_net.proofs.slot_net.testing.used_tests.Goals as goal

pub truth-requires : goal.truth-requires
truth-requires g c = slot_all (λ n. IsOperand n.used) c.args.slots.now c.loop-slot.slot-index c.slot-item.result (omega arith) c.slot-item.is c.requires

pub loop-slot-init : goal.loop-slot-init
loop-slot-init g c = record { count = ap length c.new-tests.ensures.items; tests = no_tests _ _ 0 (map tree_of c.new-tests.result.items) (ap (λ l. length (map tree_of l)) c.new-tests.ensures.items) }

pub loop-slot-preserved : goal.loop-slot-preserved
loop-slot-preserved g c =
    let old = c.loop-slot.tests.items in
    let e = c.in_ok-truth.field-0 in
    let slots = c.args.slots.now in
    record {
      count = omega (arith, ap length c.in_ok-push.ensures.items, length-append old (e ∷ []), c.loop-slot.invariant.count);
      tests = item_push (operands_of (slots_of slots)) is_used slots c.loop-slot.slot-index c.slot-item.result (map tree_of old) (map tree_of c.push.new.self.items) (tree_of e)
          (length-map old tree_of ∙ c.loop-slot.invariant.count) (omega arith) c.slot-item.is (ap (map tree_of) c.in_ok-push.ensures.items ∙ map-append tree_of old (e ∷ [])) (λ ins h. h) c.loop-slot.invariant.tests
          (λ ins all mine. part_of ins 2 8 1 _ _ _ (omega arith) refl (c.in_ok-truth.ensures ins (All-head (IsAvailable ins) c.slot-item.result.used c.slot-item.result.key.items mine)));
    }
