use Rattle.std.proofs.Common.{◌∙◌, ◌==◌, [], ◌∷◌, ap, arith}
use Rattle.hazard_core.specs.cell_core.Cells.{bit, bits_from}
use Rattle.cell_nets.specs.Operands.{number_in, IsAvailable}
use Rattle.cell_nets.specs.Wires.{wires_of, always}
use Rattle.cell_nets.proofs.StepNets.ChainLaws.{starts, next, last}
use Rattle.cell_nets.proofs.StepNets.StepLaws.{all_each}
use Rattle.overlay_net.proofs.keys.same_word.Goals as goal

pub returns : goal.returns
returns g c =
    let a = c.args.a in
    let b = c.args.b in
    let w = c.args.width in
    let x = c.in_ok-left.left in
    let y = c.in_ok-right.right in
    last
    (next
    (next (starts c.args.part (wires_of c.args.wires.now.items) (a ∷ b ∷ []) always) c.in_ok-left.ensures (λ ins h. all_each (IsAvailable ins) (a ∷ []) (h 0 a (omega arith), tt)) (λ v f k. tt))
    c.in_ok-right.ensures (λ ins h. all_each (IsAvailable ins) (b ∷ []) (h 2 b (omega arith), tt)) (λ v f k. tt))
    c.in_ok-out.ensures (λ ins h. all_each (IsAvailable ins) (x ∷ y ∷ []) (h 1 x (omega arith), (h 0 y (omega arith), tt))) (λ v f k. tt)
    (λ v. bit (bits_from (number_in v a) 0 w == bits_from (number_in v b) 0 w))
    (λ v f k. ap (λ n. bit (n == number_in v y)) k.0.1 ∙ ap (λ n. bit (bits_from (number_in v a) 0 w == n)) k.1)
