use Rattle.std.specs.Prelude.{not, nat_lt}
use Rattle.std.proofs.Common.{◌∙◌, ◌&&◌, ◌||◌, [], ◌∷◌, ap, ap₂, arith}
use Rattle.overlay_net.specs.cell_core.Cells.{bit, on}
use Rattle.overlay_net.specs.cell_nets.declared.operand.Operand.TheVariants.{Known}
use Rattle.overlay_net.specs.cell_nets.Operands.{number_in, IsAvailable}
use Rattle.overlay_net.specs.cell_nets.Wires.{wires_of, always}
use Rattle.overlay_net.proofs.cell_nets_laws.StepNets.ChainLaws.{starts, next, last}
use Rattle.overlay_net.proofs.cell_nets_laws.StepNets.StepLaws.{all_each, on_bit}
use Rattle.read_net.proofs.TouchNet.StepLemmas.{and_turned}
use Rattle.read_net.proofs.touch_net.key.update_touched.Goals as goal

pub returns : goal.returns
returns g c =
    let flags = c.args.flags in
    let found = c.args.found in
    let same = c.args.same in
    let brings = c.in_ok-brings.brings in
    let grows = c.in_ok-grows.grows in
    let seen = c.in_ok-seen.seen in
    let unknown = c.in_ok-unknown.unknown in
    let a = next (starts c.args.part (wires_of c.args.wires.now.items) (flags ∷ found ∷ same ∷ []) always) c.in_ok-brings.ensures (λ ins h. all_each (IsAvailable ins) (flags ∷ Known 2 ∷ []) (h 0 flags (omega arith), (tt, tt))) (λ v f k. tt) in
    let b = next a c.in_ok-grows.ensures (λ ins h. all_each (IsAvailable ins) (brings ∷ found ∷ []) (h 0 brings (omega arith), (h 2 found (omega arith), tt))) (λ v f k. tt) in
    let d = next b c.in_ok-seen.ensures (λ ins h. all_each (IsAvailable ins) (same ∷ grows ∷ []) (h 4 same (omega arith), (h 0 grows (omega arith), tt))) (λ v f k. tt) in
    let e = next d c.in_ok-unknown.ensures (λ ins h. all_each (IsAvailable ins) (Known 2 ∷ flags ∷ []) (tt, (h 3 flags (omega arith), tt))) (λ v f k. tt) in
    last e c.in_ok-out.ensures (λ ins h. all_each (IsAvailable ins) (seen ∷ unknown ∷ []) (h 1 seen (omega arith), (h 0 unknown (omega arith), tt))) (λ v f k. tt)
    (λ v. bit (not (nat_lt 2 (number_in v flags)) && (on (number_in v same) || (nat_lt (number_in v flags) 2 && not (on (number_in v found))))))
    (λ v f k.
    let grown = ap on k.0.0.1 ∙ on_bit _ ∙ ap (λ x. x && not (on (number_in v found))) (ap on k.0.0.0.1 ∙ on_bit _) in
    let saw = ap on k.0.1 ∙ on_bit _ ∙ ap (λ x. on (number_in v same) || x) grown in
    ap bit (ap₂ (λ x y. x && not y) saw (ap on k.1 ∙ on_bit _) ∙ and_turned (on (number_in v same) || (nat_lt (number_in v flags) 2 && not (on (number_in v found)))) (not (nat_lt 2 (number_in v flags)))))
