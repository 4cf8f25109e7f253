use Rattle.std.proofs.Common.{[], ◌∷◌, refl, map, arith}
use Rattle.std.proofs.lemmas.List.Elements.{All-take}
use Rattle.cell_core.specs.declared.operator.Operator.TheVariants.{Not, NonZero, SignExtend, Select, ShiftLeft}
use Rattle.cell_nets.specs.Operands.{number_in, IsAvailable}
use Rattle.cell_nets.proofs.NumberLemmas.{from_inputs, pair_number}
use Rattle.cell_nets.proofs.ComputingLemmas.{pair_left, plain_takes, inputs_computes}
use Rattle.cell_nets.proofs.operators.expression.Goals as goal

pub pair-requires-clause-pair : goal.pair-requires-clause-pair
pair-requires-clause-pair g c = pair_left c.args.op c.requires.operation c.requires.plain c.in_default.not-Not c.in_default.not-NonZero c.in_default.not-SignExtend c.in_default.not-Select c.in_default.not-ShiftLeft

pub returns-in_ok-e-in-Not : goal.returns-in_ok-e-in-Not
returns-in_ok-e-in-Not g c = λ ins packet h.
    inputs_computes ins c.args.args.now (c.input-a.result ∷ []) packet c.args.op Not c.args.width _ c.in-Not.is (λ v. from_inputs packet Not (map (number_in v) c.args.args.now) _ _ _ refl (c.input-a.ensures.number v) refl refl)
    (c.in_ok-e-in-Not.ensures ins packet (c.input-a.ensures.available ins 3 (omega arith) (All-take (IsAvailable ins) 3 c.args.args.now h)))

pub returns-in_ok-e-in-NonZero : goal.returns-in_ok-e-in-NonZero
returns-in_ok-e-in-NonZero g c = λ ins packet h.
    inputs_computes ins c.args.args.now (c.input-a.result ∷ []) packet c.args.op NonZero c.args.width _ c.in-NonZero.is (λ v. from_inputs packet NonZero (map (number_in v) c.args.args.now) _ _ _ refl (c.input-a.ensures.number v) refl refl)
    (c.in_ok-e-in-NonZero.ensures ins packet (c.input-a.ensures.available ins 3 (omega arith) (All-take (IsAvailable ins) 3 c.args.args.now h)))

pub returns-in_ok-e-in-SignExtend : goal.returns-in_ok-e-in-SignExtend
returns-in_ok-e-in-SignExtend g c = λ ins packet h.
    let bits = c.in-SignExtend.bits in
    inputs_computes ins c.args.args.now (c.input-a.result ∷ []) packet c.args.op (SignExtend bits) c.args.width _ c.in-SignExtend.is (λ v. from_inputs packet (SignExtend bits) (map (number_in v) c.args.args.now) _ _ _ refl (c.input-a.ensures.number v) refl refl)
    (c.in_ok-e-in-SignExtend.ensures ins packet (c.input-a.ensures.available ins 3 (omega arith) (All-take (IsAvailable ins) 3 c.args.args.now h)))

pub returns-in_ok-e-in-Select : goal.returns-in_ok-e-in-Select
returns-in_ok-e-in-Select g c = λ ins packet h.
    inputs_computes ins c.args.args.now (c.input-a.result ∷ c.input-b.result ∷ c.input.result ∷ []) packet c.args.op Select c.args.width _ c.in-Select.is
    (λ v. from_inputs packet Select (map (number_in v) c.args.args.now) _ _ _ refl (c.input-a.ensures.number v) (c.input-b.ensures.number v) (c.input.ensures.number v))
    (c.in_ok-e-in-Select.ensures ins packet (c.input-a.ensures.available ins 3 (omega arith) (All-take (IsAvailable ins) 3 c.args.args.now h)) (c.input-b.ensures.available ins 3 (omega arith) (All-take (IsAvailable ins) 3 c.args.args.now h)) (c.input.ensures.available ins 3 (omega arith) (All-take (IsAvailable ins) 3 c.args.args.now h)))

pub returns-in_ok-e-in-ShiftLeft : goal.returns-in_ok-e-in-ShiftLeft
returns-in_ok-e-in-ShiftLeft g c = λ ins packet h.
    inputs_computes ins c.args.args.now (c.input-a.result ∷ c.input-b.result ∷ []) packet c.args.op ShiftLeft c.args.width _ c.in-ShiftLeft.is
    (λ v. pair_number packet ShiftLeft (map (number_in v) c.args.args.now) _ _ refl (λ e. cc) (c.input-a.ensures.number v) (c.input-b.ensures.number v))
    (c.in_ok-e-in-ShiftLeft.ensures ins packet (c.input-a.ensures.available ins 3 (omega arith) (All-take (IsAvailable ins) 3 c.args.args.now h)) (c.input-b.ensures.available ins 3 (omega arith) (All-take (IsAvailable ins) 3 c.args.args.now h)))

pub returns-in_ok-e-in_default : goal.returns-in_ok-e-in_default
returns-in_ok-e-in_default g c = λ ins packet h.
    inputs_computes ins c.args.args.now (c.input-a.result ∷ c.input-b.result ∷ []) packet c.args.op c.args.op c.args.width _ refl
    (λ v. pair_number packet c.args.op (map (number_in v) c.args.args.now) _ _ (plain_takes c.args.op c.requires.plain) c.in_default.not-Select (c.input-a.ensures.number v) (c.input-b.ensures.number v))
    (c.in_ok-e-in_default.ensures ins packet (c.input-a.ensures.available ins 3 (omega arith) (All-take (IsAvailable ins) 3 c.args.args.now h)) (c.input-b.ensures.available ins 3 (omega arith) (All-take (IsAvailable ins) 3 c.args.args.now h)))
