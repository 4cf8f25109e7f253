use Rattle.std.proofs.Common.{◌<◌, ◌^◌, [], ◌∷◌, arith}
use Rattle.block_core.proofs.list_laws_laws.AllLaws.{all_one, all_two, all_three}
use Rattle.cell_nets.specs.Operands.{number_in, IsAvailable}
use Rattle.cell_nets.specs.Wires.{always}
use Rattle.overlay_net.proofs.ValueNet.Holding.{no_packet, hold_none, hold_more, hold_gives}
use Rattle.overlay_net.proofs.ValueNet.ChangeLaws.{exchanged_is}
use Rattle.overlay_net.proofs.value_net.changing.exchanged.Goals as goal

pub returns : goal.returns
returns g c =
    let p = c.args.part in
    let old = c.args.old in
    let source = c.args.source in
    let compare = c.args.compare in
    let width = c.args.width in
    let expected = c.in_ok-expected.expected in
    let same = c.in_ok-same.same in
    let out = c.in_ok-out.out in
    let args = old ∷ source ∷ compare ∷ [] in
    let x = hold_more p _ _ _ args args (compare ∷ []) (λ v. number_in v old < 2 ^ width) (λ v. number_in v old < 2 ^ width) always _ width expected (hold_none p _ args (λ v. number_in v old < 2 ^ width)) c.in_ok-expected.ensures (λ ins h. all_one (IsAvailable ins) compare (h 2 compare (omega arith))) (λ v f k. tt) in
    let y = hold_more p _ _ _ args (expected ∷ args) (old ∷ expected ∷ []) (λ v. number_in v old < 2 ^ width) _ always _ 1 same x (c.in_ok-same.ensures.gives no_packet) (λ ins h. all_two (IsAvailable ins) old expected (h 1 old (omega arith)) (h 0 expected (omega arith))) (λ v f k. tt) in
    let z = hold_more p _ _ _ args (same ∷ expected ∷ args) (same ∷ source ∷ old ∷ []) (λ v. number_in v old < 2 ^ width) _ always _ width out y c.in_ok-out.ensures (λ ins h. all_three (IsAvailable ins) same source old (h 0 same (omega arith)) (h 3 source (omega arith)) (h 2 old (omega arith))) (λ v f k. tt) in
    hold_gives p _ _ args (out ∷ same ∷ expected ∷ args) (λ v. number_in v old < 2 ^ width) _ _ width out z c.in_ok-out.ensures.operand c.in_ok-out.ensures.bits (λ ins h. h 0 out (omega arith))
    (λ v f k. exchanged_is no_packet width (number_in v old) (number_in v source) (number_in v compare) (number_in v expected) (number_in v same) (number_in v out) c.requires.most k.0.0.0 k.0.0.1 k.0.1 k.1)
