use Rattle.std.proofs.Common.{◌&&◌, false, refl, [], ◌∷◌, sym, arith}
use Rattle.cell_core.specs.Cells.{bit, on}
use Rattle.cell_nets.specs.declared.operand.Operand.TheVariants.{Known}
use Rattle.cell_nets.specs.Operands.{number_in, IsAvailable}
use Rattle.cell_nets.specs.Wires.{wires_of, always}
use Rattle.cell_nets.proofs.StepNets.ChainLaws.{starts, next, last}
use Rattle.cell_nets.proofs.StepNets.StepLaws.{all_each, and_chosen}
use Rattle.cell_nets.proofs.StepNets.FoldLaws.{fact_gives}
use Rattle.cell_nets.proofs.step_nets.both.Goals as goal

pub returns-then-is_zero : goal.returns-then-is_zero
returns-then-is_zero g c = fact_gives c.args.part (wires_of c.args.wires.now.items) (c.args.a ∷ c.args.b ∷ []) _ false _ c.fact.ensures (λ v i. bit (on (number_in v (sym (c.if-is_zero.ensures refl) i)) && on (number_in v c.args.b)))

pub returns : goal.returns
returns g c =
    let a = c.args.a in
    let b = c.args.b in
    let t = c.in_ok-second.second in
    last
    (next (starts c.args.part (wires_of c.args.wires.now.items) (a ∷ b ∷ []) always) c.in_ok-second.ensures (λ ins h. all_each (IsAvailable ins) (b ∷ []) (h 1 b (omega arith), tt)) (λ v f k. tt))
    c.in_ok-out.ensures (λ ins h. all_each (IsAvailable ins) (a ∷ t ∷ Known 0 ∷ []) (h 1 a (omega arith), (h 0 t (omega arith), (tt, tt)))) (λ v f k. tt)
    (λ v. bit (on (number_in v a) && on (number_in v b))) (λ v f k. and_chosen (on (number_in v a)) (on (number_in v b)) (number_in v t) k.1)
