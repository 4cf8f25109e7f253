use Rattle.std.proofs.Common.{◌∙◌, ◌||◌, [], ◌∷◌, ap, arith}
use Rattle.overlay_net.specs.cell_core.Cells.{bit, on, bits_from}
use Rattle.overlay_net.specs.cell_nets.declared.operand.Operand.TheVariants.{Known}
use Rattle.overlay_net.specs.cell_nets.Operands.{number_in, IsAvailable}
use Rattle.overlay_net.specs.cell_nets.Wires.{wires_of, always}
use Rattle.overlay_net.proofs.cell_nets_laws.StepNets.ChainLaws.{starts, next, last}
use Rattle.overlay_net.proofs.cell_nets_laws.StepNets.StepLaws.{all_each}
use Rattle.overlay_net.proofs.cell_core_laws.BitLaws.{bit_bits, or_chosen}
use Rattle.commit_net.proofs.change_net.presence.any_net.Goals as goal

pub named-requires-clause-operand : goal.named-requires-clause-operand
named-requires-clause-operand g c = c.in_ok-either.ensures.operand

pub returns : goal.returns
returns g c =
    let a = c.args.a in
    let b = c.args.b in
    let second = c.in_ok-second.second in
    let either = c.in_ok-either.either in
    let x = next (starts c.args.part (wires_of c.args.wires.now.items) (a ∷ b ∷ []) always) c.in_ok-second.ensures (λ ins h. all_each (IsAvailable ins) (b ∷ []) (h 1 b (omega arith), tt)) (λ v f k. tt) in
    let y = next x c.in_ok-either.ensures (λ ins h. all_each (IsAvailable ins) (a ∷ Known 1 ∷ second ∷ []) (h 1 a (omega arith), (tt, (h 0 a (omega arith), tt)))) (λ v f k. tt) in
    last y c.in_ok-out.ensures (λ ins h. all_each (IsAvailable ins) (either ∷ []) (h 0 a (omega arith), tt)) (λ v f k. tt) (λ v. bit (on (number_in v a) || on (number_in v b)))
    (λ v f k. ap (λ n. bits_from n 0 1) (k.1 ∙ or_chosen (on (number_in v a)) (on (number_in v b)) (number_in v second) k.0.1) ∙ bit_bits (on (number_in v a) || on (number_in v b)))
