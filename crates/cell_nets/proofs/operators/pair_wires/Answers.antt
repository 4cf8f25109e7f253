use Rattle.std.proofs.Common.{[], ◌∷◌, ◌∙◌, refl, sym, map, arith}
use Rattle.std.proofs.lemmas.List.Elements.{All-take}
use Rattle.block_core.proofs.list_laws_laws.AllLaws.{all_two}
use Rattle.cell_core.specs.declared.operator.Operator.TheVariants.{ShiftRight, Quotient, Remainder}
use Rattle.cell_nets.specs.Operands.{number_in, IsAvailable}
use Rattle.cell_nets.specs.Wires.{always}
use Rattle.cell_nets.proofs.NumberLemmas.{pair_number}
use Rattle.cell_nets.proofs.ComputingLemmas.{quotient_left, inputs_gives}
use Rattle.cell_nets.proofs.operators.pair_wires.Goals as goal

pub returns-in_ok-out-in-ShiftRight : goal.returns-in_ok-out-in-ShiftRight
returns-in_ok-out-in-ShiftRight g c = λ packet.
    let a = c.input-a.result in
    let b = c.input-b.result in
    inputs_gives c.args.part _ _ c.args.args.now (a ∷ b ∷ []) packet c.args.op ShiftRight always c.args.width c.in_ok-out-in-ShiftRight.out c.in-ShiftRight.is (λ ins h. all_two (IsAvailable ins) a b (c.input-a.ensures.available ins 2 (omega arith) (All-take (IsAvailable ins) 2 c.args.args.now h)) (c.input-b.ensures.available ins 2 (omega arith) (All-take (IsAvailable ins) 2 c.args.args.now h)))
    (λ v. pair_number packet ShiftRight (map (number_in v) c.args.args.now) _ _ refl (λ e. cc) (c.input-a.ensures.number v) (c.input-b.ensures.number v)) (λ v n. tt) (c.in_ok-out-in-ShiftRight.ensures packet)

pub returns-in_ok-out-in-Remainder : goal.returns-in_ok-out-in-Remainder
returns-in_ok-out-in-Remainder g c = λ packet.
    let a = c.input-a.result in
    let b = c.input-b.result in
    inputs_gives c.args.part _ _ c.args.args.now (a ∷ b ∷ []) packet c.args.op Remainder _ c.args.width c.in_ok-out-in-Remainder.out c.in-Remainder.is (λ ins h. all_two (IsAvailable ins) a b (c.input-a.ensures.available ins 2 (omega arith) h) (c.input-b.ensures.available ins 2 (omega arith) h))
    (λ v. pair_number packet Remainder (map (number_in v) c.args.args.now) _ _ refl (λ e. cc) (c.input-a.ensures.number v) (c.input-b.ensures.number v)) (λ v n z. n refl (sym (c.input-b.ensures.number v) ∙ z)) (c.in_ok-out-in-Remainder.ensures packet)

pub returns-in_ok-out-in_default : goal.returns-in_ok-out-in_default
returns-in_ok-out-in_default g c = λ packet.
    let a = c.input-a.result in
    let b = c.input-b.result in
    inputs_gives c.args.part _ _ c.args.args.now (a ∷ b ∷ []) packet c.args.op Quotient _ c.args.width c.in_ok-out-in_default.out (quotient_left c.args.op c.requires.wired c.requires.two c.in_default.not-ShiftRight c.in_default.not-Remainder)
    (λ ins h. all_two (IsAvailable ins) a b (c.input-a.ensures.available ins 2 (omega arith) h) (c.input-b.ensures.available ins 2 (omega arith) h)) (λ v. pair_number packet Quotient (map (number_in v) c.args.args.now) _ _ refl (λ e. cc) (c.input-a.ensures.number v) (c.input-b.ensures.number v))
    (λ v n z. n refl (sym (c.input-b.ensures.number v) ∙ z)) (c.in_ok-out-in_default.ensures packet)
