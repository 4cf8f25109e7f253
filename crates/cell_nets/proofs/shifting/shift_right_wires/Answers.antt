use Rattle.std.proofs.Common.{false, ◌≤◌, [], ◌∷◌, ◌∙◌, ap, arith}
use Rattle.std.proofs.Math.Pow.{pow_mono}
use Rattle.cell_core.specs.declared.operator.Operator.TheVariants.{ShiftRight}
use Rattle.cell_core.specs.Cells.{number, bits_from}
use Rattle.cell_nets.specs.Operands.{number_in}
use Rattle.cell_nets.specs.Parts.{worth}
use Rattle.cell_nets.proofs.NarrowLaws.{bits_small}
use Rattle.cell_nets.proofs.ShiftLaws.{cut_low}
use Rattle.cell_nets.proofs.GiveLaws.{gives_next, worth_at}
use Rattle.cell_nets.proofs.shifting.shift_right_wires.Goals as goal

pub shift_right-requires-clause-enough : goal.shift_right-requires-clause-enough
shift_right-requires-clause-enough g c = λ v f. omega (arith, pow_mono {i = c.span.result} {j = c.max-enough.result} (omega arith), c.span.ensures.enough v f)

pub returns-then-enough-width : goal.returns-then-enough-width
returns-then-enough-width g c = λ packet.
    let m = c.max-enough.result in
    let x = c.in_ok-whole.ensures.gives false (c.args.a ∷ c.args.b ∷ []) (worth packet ShiftRight (c.args.a ∷ c.args.b ∷ []) m) (λ v. bits_small (number packet ShiftRight (number_in v c.args.a ∷ number_in v c.args.b ∷ [])) 0 m)
    (λ ins h. c.in_ok-bits.ensures ins packet (h 0 c.args.a (omega arith)) (h 1 c.args.b (omega arith)))
    in
    worth_at c.args.part _ _ _ (c.args.a ∷ c.args.b ∷ []) _ packet ShiftRight m c.args.width c.if-enough-width.true x

pub returns : goal.returns
returns g c = λ packet.
    let m = c.max-enough.result in
    let less : c.args.width ≤ m = omega arith in
    let x = c.in_ok-whole.ensures.gives false (c.args.a ∷ c.args.b ∷ []) (worth packet ShiftRight (c.args.a ∷ c.args.b ∷ []) m) (λ v. bits_small (number packet ShiftRight (number_in v c.args.a ∷ number_in v c.args.b ∷ [])) 0 m)
    (λ ins h. c.in_ok-bits.ensures ins packet (h 0 c.args.a (omega arith)) (h 1 c.args.b (omega arith)))
    in
    gives_next c.args.part _ _ _ _ _ _ _ _ m c.args.width _ _ x c.in_ok-out.ensures
    (λ v fit e. ap (λ k. bits_from k 0 c.args.width) e ∙ cut_low (number packet ShiftRight (number_in v c.args.a ∷ number_in v c.args.b ∷ [])) m c.args.width less)
