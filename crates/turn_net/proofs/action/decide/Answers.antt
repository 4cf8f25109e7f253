use Rattle.std.proofs.Common.{◌++◌, length, subst}
use Rattle.cell_nets.specs.Wires.{wires_of}
use Rattle.turn_net.specs.Nets.{kept, all_read, slot_operands}
use Rattle.turn_net.specs.Steps.{Leads, AreSlots}
use Rattle.turn_net.proofs.DecideLemmas.{decides}
use Rattle.turn_net.proofs.action.decide.Goals as goal

pub returns-clause-has : goal.returns-clause-has
returns-clause-has g c = record {
  chosen = c.in_ok-each.ensures.chosen;
  done = c.in_ok-each.ensures.has.done;
  done_bits = c.in_ok-each.ensures.has.done_bits;
  slots_count = c.in_ok-slots.ensures.count;
  slot_operands = c.in_ok-slots.ensures.operands;
  slot_bits = c.in_ok-slots.ensures.bits;
}

pub returns-clause-leads : goal.returns-clause-leads
returns-clause-leads g c = λ p decls are.
    let part = c.args.part in
    let shape = c.args.shape.now in
    let rs = c.args.records.now in
    let each = c.in_ok-each.each in
    let told = c.in_ok-told.told in
    let slots = c.in_ok-slots.slots.items in
    decides p decls part shape c.args.nets.now rs c.in_ok-first.first each.last each.chosen.items told.commits told.stays slots (wires_of c.args.wires.now.items) _ _ _ _ c.in_ok-first.ensures.leads (c.in_ok-each.ensures.leads p decls are) c.in_ok-told.ensures
    (subst (λ l. Leads part (wires_of c.tell.new.wires.items) (wires_of c.slots.new.wires.items) (l ++ (all_read rs ++ slot_operands part shape.slot_bits 1 (length (kept rs)))) slots (λ v. AreSlots v part rs l slots)) c.deref.ensures.value c.in_ok-slots.ensures.leads)
