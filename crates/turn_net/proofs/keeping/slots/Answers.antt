use Rattle.std.proofs.Common.{◌∙◌, ◌+◌, ◌++◌, length, take, sym, ap, subst, refl, arith}
use Rattle.std.proofs.lemmas.List.{take_all, length-take-le}
use Rattle.cell_nets.specs.Operands.{IsOperand, IsAvailable}
use Rattle.cell_nets.specs.Wires.{wires_of}
use Rattle.cell_nets.proofs.StepNets.StepLaws.{avail_at}
use Rattle.turn_net.specs.Nets.{kept, HasOperands, IsKept, slot_operands, all_read}
use Rattle.turn_net.specs.Steps.{slots_after}
use Rattle.turn_net.proofs.StandLemmas.{left_of, leads_as}
use Rattle.turn_net.proofs.KeepLemmas.{kept_most, IsKeeping, no_slots, same_slots, more_slots}
use Rattle.turn_net.proofs.keeping.slots.Goals.{then-keeps+in_ok-next+in_ok-push, else-keeps}
use Rattle.turn_net.proofs.keeping.slots.Goals as goal

pub loop-i-init : goal.loop-i-init
loop-i-init g c = no_slots c.args.part c.args.bits c.args.records.now c.args.chosen.now (wires_of c.args.wires.now.items) c.new-all.result.items c.new-all.ensures.items

pub overflow_cast-now : goal.overflow_cast-now
overflow_cast-now g c = omega (arith, c.len.ensures, c.loop-i.invariant.count, kept_most (take c.loop-i.i c.args.records.now), length-take-le c.loop-i.i c.args.records.now (omega arith), c.requires.few)

pub overflow_add-now : goal.overflow_add-now
overflow_add-now g c = omega (arith, c.len.ensures, c.loop-i.invariant.count, kept_most (take c.loop-i.i c.args.records.now), length-take-le c.loop-i.i c.args.records.now (omega arith), c.requires.few)

pub choose-requires-clause-condition : goal.choose-requires-clause-condition
choose-requires-clause-condition g c = avail_at IsOperand c.args.chosen.now c.loop-i.i c.index-chosen-i.result (omega (arith, c.requires.count)) c.index-chosen-i.is c.requires.chosen

pub choose-requires-clause-left : goal.choose-requires-clause-left
choose-requires-clause-left g c = avail_at HasOperands c.args.records.now c.loop-i.i c.index-records-i.result (omega arith) c.index-records-i.is c.requires.records 0 c.index-records-i.result.target (omega arith)

pub loop-i-preserved : goal.loop-i-preserved
loop-i-preserved g c =
    let part = c.args.part in
    let bits = c.args.bits in
    let rs = c.args.records.now in
    let chosen = c.args.chosen.now in
    let old = wires_of c.args.wires.now.items in
    let r = c.index-records-i.result in
    let n = c.loop-i.i in
    let inside = c.loop-i-test.true in
    elim c.if-keeps.branch [
      | then-keeps+in_ok-next+in_ok-push w ↦
          subst (λ ws. IsKeeping part bits rs chosen old (wires_of ws.items) (n + 1) c.if-keeps.all.items) (sym w.wires-is)
          (subst (λ l. IsKeeping part bits rs chosen old (wires_of w.choose.new.wires.items) (n + 1) l.items) (sym w.all-is)
          (more_slots part bits rs chosen n (n + 1) r inside refl c.index-records-i.is old _ _ c.loop-i.all.items _ w.index-chosen-i.result w.in_ok-next.next (1 + w.len.result) c.requires.count w.index-chosen-i.is (sym c.keeps.ensures ∙ w.if-keeps.true)
          (avail_at (IsKept bits) rs n r inside c.index-records-i.is c.requires.kept (sym c.keeps.ensures ∙ w.if-keeps.true)) (omega (arith, w.len.ensures)) w.in_ok-push.ensures.items c.loop-i.invariant w.in_ok-next.ensures))
      | else-keeps w ↦
          subst (λ ws. IsKeeping part bits rs chosen old (wires_of ws.items) (n + 1) c.if-keeps.all.items) (sym w.wires-is)
          (subst (λ l. IsKeeping part bits rs chosen old (wires_of c.loop-i.wires.items) (n + 1) l.items) (sym w.all-is) (same_slots part bits rs chosen n (n + 1) r inside refl c.index-records-i.is old _ c.loop-i.all.items (sym c.keeps.ensures ∙ w.if-keeps.false) c.loop-i.invariant))
    ]

pub returns-clause-count : goal.returns-clause-count
returns-clause-count g c = c.loop-i.invariant.count ∙ ap (λ l. length (kept l)) (take_all c.loop-i.i c.args.records.now (omega arith))

pub returns-clause-operands : goal.returns-clause-operands
returns-clause-operands g c = c.loop-i.invariant.operands

pub returns-clause-bits : goal.returns-clause-bits
returns-clause-bits g c = c.loop-i.invariant.all_bits

pub returns-clause-leads : goal.returns-clause-leads
returns-clause-leads g c =
    let l = c.loop-i in
    let rs = c.args.records.now in
    leads_as l.invariant.leads l.all.items _ (λ ins h. left_of (IsAvailable ins) l.all.items (c.args.chosen.now ++ (all_read rs ++ slot_operands c.args.part c.args.bits 1 (length (kept rs)))) h)
    (λ v f k. λ site sh. k site sh ∙ ap (λ xs. slots_after v c.args.part site 1 (kept xs)) (take_all l.i rs (omega arith)))
