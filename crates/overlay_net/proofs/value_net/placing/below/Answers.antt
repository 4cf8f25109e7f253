use Rattle.std.proofs.Common.{◌≡◌, ◌+◌, ◌*◌, ◌%◌, ◌^◌, [], ◌∷◌, refl, sym, ◌∙◌, ap, subst, arith}
use Rattle.block_core.proofs.list_laws_laws.AllLaws.{all_one, all_two}
use Rattle.cell_nets.specs.Operands.{number_in, IsAvailable}
use Rattle.cell_nets.specs.Wires.{always, HasBits}
use Rattle.cell_nets.proofs.PartLaws.{bits_below}
use Rattle.overlay_net.proofs.ValueNet.Holding.{no_packet, hold_none, hold_more, hold_gives, there_gives}
use Rattle.overlay_net.proofs.ValueNet.BitLemmas.{low_bits, join_bits}
use Rattle.overlay_net.proofs.value_net.placing.below.Goals as goal

pub returns-then-from-eq0 : goal.returns-then-from-eq0
returns-then-from-eq0 g c =
    let piece = c.args.piece in
    let old = c.args.old in
    let from = c.args.from in
    let e : from ≡ 0 = c.if-from-eq0.true in
    there_gives c.args.part _ (piece ∷ old ∷ []) always _ (from + c.args.width) piece c.requires.piece (subst (λ k. HasBits k piece) (omega arith) c.requires.bits) (λ ins h. h 0 piece (omega arith))
    (λ v f n. sym (ap (λ k. number_in v old % 2 ^ k + 2 ^ k * number_in v piece) e ∙ omega arith))

pub returns : goal.returns
returns g c =
    let p = c.args.part in
    let piece = c.args.piece in
    let old = c.args.old in
    let from = c.args.from in
    let width = c.args.width in
    let low = c.in_ok-low.low in
    let out = c.in_ok-out.out in
    let join = c.in_ok-out.ensures.gives no_packet in
    let x = hold_more p _ _ _ (piece ∷ old ∷ []) (piece ∷ old ∷ []) (old ∷ []) always always always _ from low (hold_none p _ (piece ∷ old ∷ []) always) c.in_ok-low.ensures (λ ins h. all_one (IsAvailable ins) old (h 1 old (omega arith))) (λ v f k. tt) in
    let y = hold_more p _ _ _ (piece ∷ old ∷ []) (low ∷ piece ∷ old ∷ []) (piece ∷ low ∷ []) always _ always _ (from + width) out x join (λ ins h. all_two (IsAvailable ins) piece low (h 1 piece (omega arith)) (h 0 low (omega arith))) (λ v f k. tt) in
    hold_gives p _ _ (piece ∷ old ∷ []) (out ∷ low ∷ piece ∷ old ∷ []) always _ _ (from + width) out y join.operand join.bits (λ ins h. h 0 out (omega arith))
    (λ v f k.
    k.1
    ∙ join_bits no_packet (number_in v piece) (number_in v low) from width (from + width) refl c.requires.inside (bits_below v piece width c.requires.bits (f 2 piece (omega arith))) (bits_below v low from c.in_ok-low.ensures.bits (f 1 low (omega arith)))
    ∙ ap (λ z. z + 2 ^ from * number_in v piece) (k.0.1 ∙ low_bits (number_in v old) from))
