use Rattle.std.proofs.Common.{◌||◌, [], ◌∷◌, arith}
use Rattle.overlay_net.specs.cell_core.Cells.{bit, on}
use Rattle.overlay_net.specs.cell_nets.declared.operand.Operand.TheVariants.{Known}
use Rattle.overlay_net.specs.cell_nets.Operands.{number_in, IsAvailable}
use Rattle.overlay_net.specs.cell_nets.Wires.{wires_of, always}
use Rattle.overlay_net.proofs.cell_nets_laws.StepNets.ChainLaws.{starts, next, last}
use Rattle.overlay_net.proofs.cell_nets_laws.StepNets.StepLaws.{all_each}
use Rattle.overlay_net.proofs.cell_core_laws.BitLaws.{or_chosen}
use Rattle.read_net.proofs.touch_net.steps.either.Goals as goal

pub returns : goal.returns
returns g c =
    let a = c.args.a in
    let b = c.args.b in
    let t = c.in_ok-second.second in
    last
    (next (starts c.args.part (wires_of c.args.wires.now.items) (a ∷ b ∷ []) always) c.in_ok-second.ensures (λ ins h. all_each (IsAvailable ins) (b ∷ []) (h 1 b (omega arith), tt)) (λ v f k. tt))
    c.in_ok-out.ensures (λ ins h. all_each (IsAvailable ins) (a ∷ Known 1 ∷ t ∷ []) (h 1 a (omega arith), (tt, (h 0 t (omega arith), tt)))) (λ v f k. tt)
    (λ v. bit (on (number_in v a) || on (number_in v b))) (λ v f k. or_chosen (on (number_in v a)) (on (number_in v b)) (number_in v t) k.1)
