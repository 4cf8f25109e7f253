use Rattle.std.specs.Prelude.{not}
use Rattle.std.proofs.Common.{◌&&◌, [], ◌∷◌, arith}
use Rattle.cell_core.specs.Cells.{bit, on}
use Rattle.cell_nets.specs.declared.operand.Operand.TheVariants.{Known}
use Rattle.cell_nets.specs.Operands.{number_in, IsAvailable}
use Rattle.cell_nets.specs.Wires.{wires_of, always}
use Rattle.cell_nets.proofs.StepNets.ChainLaws.{starts, next, last}
use Rattle.cell_nets.proofs.StepNets.StepLaws.{all_each, but_chosen}
use Rattle.cell_nets.proofs.step_nets.without.Goals as goal

pub returns : goal.returns
returns g c =
    let a = c.args.a in
    let b = c.args.b in
    let t = c.in_ok-first.first in
    last
    (next (starts c.args.part (wires_of c.args.wires.now.items) (a ∷ b ∷ []) always) c.in_ok-first.ensures (λ ins h. all_each (IsAvailable ins) (a ∷ []) (h 0 a (omega arith), tt)) (λ v f k. tt))
    c.in_ok-out.ensures (λ ins h. all_each (IsAvailable ins) (b ∷ Known 0 ∷ t ∷ []) (h 2 b (omega arith), (tt, (h 0 t (omega arith), tt)))) (λ v f k. tt)
    (λ v. bit (on (number_in v a) && not (on (number_in v b)))) (λ v f k. but_chosen (on (number_in v a)) (on (number_in v b)) (number_in v t) k.1)
