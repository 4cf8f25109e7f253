use Rattle.std.proofs.Common.{false, [], ◌∷◌, sym, subst, arith, ◌^◌, ◌<◌}
use Rattle.cell_core.specs.Cells.{bit, on}
use Rattle.cell_nets.specs.Operands.{number_in}
use Rattle.cell_nets.specs.Wires.{wires_of, always}
use Rattle.cell_nets.proofs.ExpressionPartLaws.{part_computes}
use Rattle.cell_nets.proofs.StepNets.ChainLaws.{starts, last}
use Rattle.cell_nets.proofs.StepNets.StepLaws.{one_bit, bit_small}
use Rattle.cell_nets.proofs.StepNets.FoldLaws.{fact_gives}
use Rattle.cell_nets.proofs.step_nets.truth.Goals as goal

pub returns-in-Known : goal.returns-in-Known
returns-in-Known g c = fact_gives c.args.part (wires_of c.args.wires.now.items) (c.args.a ∷ []) _ _ _ c.fact.ensures (λ v i. bit (on (number_in v (sym c.in-Known.is i))))

pub returns-then-span-eq1 : goal.returns-then-span-eq1
returns-then-span-eq1 g c =
    let a = c.args.a in
    last (starts c.args.part (wires_of c.args.wires.now.items) (a ∷ []) always) c.in_ok-out.ensures (λ ins h. h) (λ v f k. tt) (λ v. bit (on (number_in v a)))
    (λ v f k. one_bit (number_in v a) (subst (λ w. number_in v a < 2 ^ w) c.if-span-eq1.true (c.span.ensures.enough v (f 0 a (omega arith)))))

pub returns : goal.returns
returns g c =
    let a = c.args.a in
    c.in_ok-out-2.ensures.gives false (a ∷ []) (λ v. bit (on (number_in v a))) (λ v. bit_small (on (number_in v a)))
    (λ ins h. part_computes ins 2 1 (λ v. bit (on (number_in v a))) _ (omega arith) (c.in_ok-e.ensures ins (h 0 a (omega arith))))
