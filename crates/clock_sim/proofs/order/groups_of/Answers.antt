use Rattle.std.specs.Prelude.{replicate}
use Rattle.std.proofs.Common.{◌≡◌, ◌+◌, ◌++◌, get_or, drop, ap, ◌∙◌, subst}
use Rattle.std.proofs.lemmas.List.{drop_more, drop_all}
use Rattle.clock_sim.specs.declared.step.Step.{Step}
use Rattle.clock_sim.specs.declared.step.Opcode.TheVariants.{Add}
use Rattle.clock_sim.specs.Orders.{opcodes_in, opcodes_of}
use Rattle.clock_sim.proofs.GroupLemmas.{longer, begun, ended, grown}
use Rattle.clock_sim.proofs.order.groups_of.Goals.{then-takes, else-takes+in_ok-push}
use Rattle.clock_sim.proofs.order.groups_of.Goals as goal

pub loop-step-preserved : goal.loop-step-preserved
loop-step-preserved c =
    let steps = c.args.steps.now in
    let i = c.loop-step.step-index in
    let none : Step = record { number = 0; a = 0; b = 0; to = 0; shift = 0; opcode = Add } in
    let s = get_or steps i none in
    let gs = c.loop-step.groups.items in
    let last = c.loop-step.last in
    let rest = drop (i + 1) steps in
    let h = subst (λ l. opcodes_of gs ++ (replicate last.count last.opcode ++ opcodes_in l) ≡ opcodes_in steps) (drop_more steps i none c.loop-step-test.true) c.loop-step.invariant in
    elim c.if-takes.branch [
      | then-takes w ↦ grown c.if-takes.groups.items c.if-takes.last rest (opcodes_in steps) _ _ (ap (λ v. v.items) w.groups-is) w.last-is (longer gs last.count last.opcode s rest (opcodes_in steps) (c.takes.ensures w.if-takes.true).0 h)
      | else-takes+in_ok-push w ↦ grown c.if-takes.groups.items c.if-takes.last rest (opcodes_in steps) _ _ (ap (λ v. v.items) w.groups-is ∙ w.in_ok-push.ensures.items) w.last-is (begun gs last s rest (opcodes_in steps) h)
    ]

pub returns : goal.returns
returns c =
    let steps = c.args.steps.now in
    let gs = c.loop-step.groups.items in
    let last = c.loop-step.last in
    let end = drop_all c.loop-step.step-index steps c.loop-step-test.false in
    let h = subst (λ l. opcodes_of gs ++ (replicate last.count last.opcode ++ opcodes_in l) ≡ opcodes_in steps) end c.loop-step.invariant in
    ap opcodes_of c.in_ok-push-2.ensures.items ∙ ended gs last (opcodes_in steps) h
