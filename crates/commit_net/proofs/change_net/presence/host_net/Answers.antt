use Rattle.std.proofs.Common.{◌∙◌, ◌&&◌, ◌==◌, [], ◌∷◌, ap, arith}
use Rattle.overlay_net.specs.cell_core.Cells.{bit, on, bits_from}
use Rattle.overlay_net.specs.cell_nets.declared.operand.Operand.TheVariants.{Known}
use Rattle.overlay_net.specs.cell_nets.Operands.{number_in, IsAvailable}
use Rattle.overlay_net.specs.cell_nets.Wires.{wires_of, always}
use Rattle.overlay_net.proofs.cell_nets_laws.StepNets.ChainLaws.{starts, next, last}
use Rattle.overlay_net.proofs.cell_nets_laws.StepNets.StepLaws.{all_each, on_bit}
use Rattle.overlay_net.proofs.cell_core_laws.BitLaws.{bit_bits}
use Rattle.commit_net.specs.ChangeNet.Changes.{host_map}
use Rattle.commit_net.proofs.change_net.presence.host_net.Goals as goal

pub named-requires-clause-operand : goal.named-requires-clause-operand
named-requires-clause-operand g c = c.in_ok-writes.ensures.operand

pub returns : goal.returns
returns g c =
    let host = c.args.host in
    let here = c.in_ok-here.here in
    let writes = c.in_ok-writes.writes in
    let a = next (starts c.args.part (wires_of c.args.wires.now.items) (host ∷ host_map ∷ []) always) c.in_ok-here.ensures (λ ins h. all_each (IsAvailable ins) (host_map ∷ Known c.from.result ∷ []) (h 1 host (omega arith), (tt, tt))) (λ v f k. tt) in
    let b = next a c.in_ok-writes.ensures (λ ins h. all_each (IsAvailable ins) (host ∷ here ∷ []) (h 1 host (omega arith), (h 0 host (omega arith), tt))) (λ v f k. tt) in
    last b c.in_ok-out.ensures (λ ins h. all_each (IsAvailable ins) (writes ∷ []) (h 0 writes (omega arith), tt)) (λ v f k. tt) (λ v. bit (on (number_in v host) && (number_in v host_map == c.args.number)))
    (λ v f k.
    ap (λ x. bits_from x 0 1) k.1
    ∙ bit_bits (on (number_in v host) && on (number_in v here))
    ∙ ap (λ t. bit (on (number_in v host) && t)) (ap on k.0.1 ∙ on_bit (number_in v host_map == c.from.result) ∙ ap (λ n. number_in v host_map == n) c.from.ensures))
