use Rattle.std.proofs.Common.{◌∙◌, All, length, sym, ap, subst, arith}
use Rattle.block_core.specs.View.{block_of}
use Rattle.cell_nets.specs.Operands.{IsOperand, IsWide}
use Rattle.cell_nets.specs.Wires.{wires_of}
use Rattle.cell_nets.specs.OperandBlocks.Registers.{operand_in, width_in}
use Rattle.turn_net.specs.Steps.{Decides, taken_values}
use Rattle.turn_net.proofs.KeepLemmas.{kept_most}
use Rattle.turn_net.proofs.FormLemmas.{IsMade, are_operands, are_wide, count_taken, is_action}
use Rattle.turn_net.proofs.action.action.Goals as goal

pub registered-requires-clause-few : goal.registered-requires-clause-few
registered-requires-clause-few g c =
    let shape = c.args.shape.now in
    let made = c.in_ok-made.made in
    let taken = c.deref-2.ensures.value ∙ c.in_ok-takes.ensures ∙ ap (taken_values shape made.done) c.deref.ensures.value in
    omega (arith, ap length taken, count_taken shape made.done made.slots.items, c.in_ok-made.ensures.has.slots_count, kept_most c.args.records.now, c.requires.few)

pub registered-requires-clause-operands : goal.registered-requires-clause-operands
registered-requires-clause-operands g c =
    let shape = c.args.shape.now in
    let made = c.in_ok-made.made in
    let taken = c.deref-2.ensures.value ∙ c.in_ok-takes.ensures ∙ ap (taken_values shape made.done) c.deref.ensures.value in
    subst (All (λ t. IsOperand (operand_in t))) (sym taken) (are_operands shape made.done made.slots.items c.in_ok-made.ensures.has.done c.in_ok-made.ensures.has.slot_operands)

pub registered-requires-clause-widths : goal.registered-requires-clause-widths
registered-requires-clause-widths g c =
    let shape = c.args.shape.now in
    let made = c.in_ok-made.made in
    let taken = c.deref-2.ensures.value ∙ c.in_ok-takes.ensures ∙ ap (taken_values shape made.done) c.deref.ensures.value in
    subst (All (λ t. IsWide (width_in t))) (sym taken) (are_wide shape made.done made.slots.items c.requires.bits c.requires.slot_bits)

pub returns : goal.returns
returns g c = λ p decls are.
    let part = c.args.part in
    let shape = c.args.shape.now in
    let nets = c.args.nets.now in
    let rs = c.args.records.now in
    let made = c.in_ok-made.made in
    let slots = made.slots.items in
    let ws = wires_of c.decide.new.wires.items in
    let b = block_of c.in_ok-block.block in
    let taken = c.deref-2.ensures.value ∙ c.in_ok-takes.ensures ∙ ap (taken_values shape made.done) c.deref.ensures.value in
    let leads = subst (λ l. Decides p decls part shape nets rs (wires_of l) ws made.chosen.items made.commits made.stays made.done slots) c.new-wires.ensures.items (c.in_ok-made.ensures.leads p decls are) in
    is_action p decls part shape nets rs ws made.chosen.items made.commits made.stays made.done slots b are c.in_ok-made.ensures.has leads (subst (λ l. IsMade l ws b) taken c.in_ok-block.ensures)
