use Rattle.std.specs.Prelude.{nat_lt}
use Rattle.std.proofs.Common.{false, refl, [], ◌∷◌, sym, arith}
use Rattle.cell_core.specs.declared.operator.Operator.TheVariants.{Less}
use Rattle.cell_core.specs.Cells.{bit}
use Rattle.cell_nets.specs.Operands.{number_in}
use Rattle.cell_nets.specs.Parts.{worth}
use Rattle.cell_nets.specs.Wires.{wires_of, always}
use Rattle.cell_nets.proofs.ChoiceLaws.{number_small}
use Rattle.cell_nets.proofs.NarrowLaws.{bits_small}
use Rattle.cell_nets.proofs.StepNets.ChainLaws.{starts, last}
use Rattle.cell_nets.proofs.StepNets.StepLaws.{no_packet, tested}
use Rattle.cell_nets.proofs.StepNets.FoldLaws.{fact_gives}
use Rattle.cell_nets.proofs.step_nets.below.Goals as goal

pub returns-in-Known-Known : goal.returns-in-Known-Known
returns-in-Known-Known g c =
    let p = sym c.in-Known-Known.is-0 in
    let q = sym c.in-Known-Known.is-1 in
    fact_gives c.args.part (wires_of c.args.wires.now.items) (c.args.a ∷ c.args.b ∷ []) _ _ _ c.fact.ensures (λ v i. bit (nat_lt (number_in v (p i)) (number_in v (q i))))

pub returns : goal.returns
returns g c =
    let a = c.args.a in
    let b = c.args.b in
    last (starts c.args.part (wires_of c.args.wires.now.items) (a ∷ b ∷ []) always)
    (c.in_ok-out.ensures.gives false (a ∷ b ∷ []) (worth no_packet Less (a ∷ b ∷ []) 1) (λ v. bits_small _ 0 1) (λ ins h. c.in_ok-e.ensures ins no_packet Less refl (h 0 a (omega arith)) (h 1 b (omega arith)))) (λ ins h. h)
    (λ v f k. tt) (λ v. bit (nat_lt (number_in v a) (number_in v b)))
    (λ v f k. tested (nat_lt) (number_in v a) (number_in v b) (number_small v a c.requires.left (f 0 a (omega arith))) (number_small v b c.requires.right (f 1 b (omega arith))))
