use Rattle.std.proofs.Common.{◌≡◌, ◌+◌, length, get_or, take, drop, sym, ap, ◌∙◌, subst}
use Rattle.std.proofs.lemmas.List.{drop_more, drop_all}
use Rattle.clock_sim.specs.declared.step.Group.{Group}
use Rattle.clock_sim.specs.declared.step.Opcode.TheVariants.{Add}
use Rattle.clock_sim.specs.Steps.{run}
use Rattle.clock_sim.specs.Flat.{AreReading}
use Rattle.clock_sim.specs.Orders.{AreOf, opcodes_in, opcodes_of}
use Rattle.clock_sim.proofs.BuilderLemmas.{run_length}
use Rattle.clock_sim.proofs.GroupLemmas.{prefix_of, none_left, reading_prefix, reading_rest, run_parts}
use Rattle.clock_sim.proofs.step.run.Goals as goal

pub split_at-requires : goal.split_at-requires
split_at-requires c =
    let gs = c.args.groups.now in let i = c.loop-group.group-index in let left = c.loop-group.left.now in
    let none : Group = record { opcode = Add; count = 0 } in
    let g = get_or gs i none in
    let h = ap opcodes_of (sym (drop_more gs i none c.loop-group-test.true)) ∙ c.loop-group.invariant.groups in
    (prefix_of g.count g.opcode (opcodes_of (drop (i + 1) gs)) left h).count

pub run_group-requires-clause-steps : goal.run_group-requires-clause-steps
run_group-requires-clause-steps c =
    let g = get_or c.args.groups.now c.loop-group.group-index (record { opcode = Add; count = 0 }) in
    subst (λ l. AreReading (length c.loop-group.slots) l) (sym c.split_at.ensures.front) (reading_prefix (length c.loop-group.slots) g.count c.loop-group.left.now c.loop-group.invariant.reading)

pub run_group-requires-clause-opcode : goal.run_group-requires-clause-opcode
run_group-requires-clause-opcode c =
    let gs = c.args.groups.now in let i = c.loop-group.group-index in let left = c.loop-group.left.now in
    let none : Group = record { opcode = Add; count = 0 } in
    let g = get_or gs i none in
    let h = ap opcodes_of (sym (drop_more gs i none c.loop-group-test.true)) ∙ c.loop-group.invariant.groups in
    subst (λ l. AreOf g.opcode l) (sym c.split_at.ensures.front) (prefix_of g.count g.opcode (opcodes_of (drop (i + 1) gs)) left h).are

pub loop-group-preserved : goal.loop-group-preserved
loop-group-preserved c =
    let gs = c.args.groups.now in let i = c.loop-group.group-index in let left = c.loop-group.left.now in
    let none : Group = record { opcode = Add; count = 0 } in
    let g = get_or gs i none in
    let contents = c.args.contents.now in let slots = c.loop-group.slots in let after = c.run_group.new.slots in
    let h = ap opcodes_of (sym (drop_more gs i none c.loop-group-test.true)) ∙ c.loop-group.invariant.groups in
    let is = c.run_group.ensures ∙ ap (λ l. run contents l slots) c.split_at.ensures.front in
    let count : length after ≡ length slots = ap length is ∙ run_length contents (take g.count left) slots in
    record {
      groups = (prefix_of g.count g.opcode (opcodes_of (drop (i + 1) gs)) left h).rest ∙ ap opcodes_in (sym c.split_at.ensures.back);
      reading = subst (λ l. AreReading (length after) l) (sym c.split_at.ensures.back) (subst (λ k. AreReading k (drop g.count left)) (sym count) (reading_rest (length slots) g.count left c.loop-group.invariant.reading));
      made = ap (λ l. run contents l after) c.split_at.ensures.back ∙ ap (λ s. run contents (drop g.count left) s) is ∙ run_parts contents g.count left slots ∙ c.loop-group.invariant.made;
    }

pub returns : goal.returns
returns c =
    let gs = c.args.groups.now in
    let end = drop_all c.loop-group.group-index gs c.loop-group-test.false in
    let none = none_left c.loop-group.left.now (ap opcodes_of (sym end) ∙ c.loop-group.invariant.groups) in
    sym (ap (λ l. run c.args.contents.now l c.loop-group.slots) none) ∙ c.loop-group.invariant.made
