use Rattle.std.proofs.Common.{◌≡◌, [], length, map, drop, sym, subst, arith}
use Rattle.std.proofs.lemmas.List.{drop_all, length-map}
use Rattle.net_core.specs.View.{assign_of}
use Rattle.clock_sim.specs.Flat.{AreOperands, Adds, Values}
use Rattle.clock_sim.proofs.ItemLaws.{at_item}
use Rattle.clock_sim.proofs.OutputLemmas.{shown_first, shown_rest, assigned_here, assigned_later, assigned_none, shows_value, shows_nothing}
use Rattle.clock_sim.proofs.outputs.assigned.Goals as goal

pub value_of-requires-clause-typed : goal.value_of-requires-clause-typed
value_of-requires-clause-typed c =
    let e = at_item assign_of c.args.assigns.now c.loop-a.a-index c.a-item.result c.loop-a-test.true c.a-item.is in
    shown_first c.args.operands.now c.args.port _ _ _ e c.loop-a.invariant.typed

pub value_of-requires-clause-operands : goal.value_of-requires-clause-operands
value_of-requires-clause-operands c = subst (λ k. AreOperands c.args.operands.now (length k.slots)) (sym c.loop-a.invariant.kept) c.requires.operands

pub returns-then-a-port-clause-adds : goal.returns-then-a-port-clause-adds
returns-then-a-port-clause-adds c = subst (λ k. Adds k c.value_of.new.builder c.in_ok-operand.operand.slot) c.loop-a.invariant.kept c.in_ok-operand.ensures.adds

pub returns-then-a-port-clause-shows : goal.returns-then-a-port-clause-shows
returns-then-a-port-clause-shows c =
    let e = at_item assign_of c.args.assigns.now c.loop-a.a-index c.a-item.result c.loop-a-test.true c.a-item.is in
    let values = subst (λ k. Values k c.value_of.new.builder c.args.operands.now (assign_of c.a-item.result).value c.in_ok-operand.operand) c.loop-a.invariant.kept c.in_ok-operand.ensures.values in
    shows_value c.args.builder.now c.value_of.new.builder c.args.operands.now (map assign_of c.args.assigns.now) c.args.port (assign_of c.a-item.result) _ (assigned_here c.args.operands.now c.args.port _ _ _ e (map assign_of c.args.assigns.now) c.if-a-port.true c.loop-a.invariant.same) values

pub loop-a-preserved : goal.loop-a-preserved
loop-a-preserved c =
    let e = at_item assign_of c.args.assigns.now c.loop-a.a-index c.a-item.result c.loop-a-test.true c.a-item.is in
    record {
      kept = c.loop-a.invariant.kept;
      typed = shown_rest c.args.operands.now c.args.port _ _ _ e c.loop-a.invariant.typed;
      same = assigned_later c.args.operands.now c.args.port _ _ _ e (map assign_of c.args.assigns.now) c.if-a-port.false c.loop-a.invariant.same;
    }

pub returns-clause-adds : goal.returns-clause-adds
returns-clause-adds c = subst (λ k. Adds k c.constant.new.builder c.in_ok-slot.slot) c.loop-a.invariant.kept c.in_ok-slot.ensures.adds

pub returns-clause-shows : goal.returns-clause-shows
returns-clause-shows c =
    let count = length-map c.args.assigns.now assign_of in
    let end : drop c.loop-a.a-index (map assign_of c.args.assigns.now) ≡ [] = drop_all c.loop-a.a-index (map assign_of c.args.assigns.now) (omega arith) in
    shows_nothing c.args.builder.now c.constant.new.builder c.args.operands.now (map assign_of c.args.assigns.now) c.args.port _ (assigned_none c.args.port _ _ end c.loop-a.invariant.same) c.in_ok-slot.ensures.holds
