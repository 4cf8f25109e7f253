use Rattle.std.proofs.Common.{◌≡◌, ◌+◌, ◌-◌, ◌*◌, ◌/◌, ◌^◌, ◌≤◌, [], ◌∷◌, sym, ◌∙◌, ap, subst, arith}
use Rattle.block_core.proofs.list_laws_laws.AllLaws.{all_one, all_two}
use Rattle.cell_nets.specs.Operands.{number_in, IsAvailable}
use Rattle.cell_nets.specs.Wires.{always, HasBits}
use Rattle.cell_nets.proofs.ChoiceLaws.{number_small}
use Rattle.cell_nets.proofs.PartLaws.{bits_below}
use Rattle.overlay_net.proofs.ValueNet.Holding.{no_packet, hold_none, hold_more, hold_gives, there_gives}
use Rattle.overlay_net.proofs.ValueNet.BitLemmas.{join_bits, high_bits, high_zero}
use Rattle.overlay_net.proofs.value_net.placing.above.Goals as goal

pub returns-then-from-eq64 : goal.returns-then-from-eq64
returns-then-from-eq64 g c =
    let filled = c.args.filled in
    let old = c.args.old in
    let e : c.args.from ≡ 64 = c.if-from-eq64.true in
    there_gives c.args.part _ (filled ∷ old ∷ []) always _ 64 filled c.requires.filled (subst (λ k. HasBits k filled) e c.requires.bits) (λ ins h. h 0 filled (omega arith))
    (λ v f n.
    let none = high_zero (number_in v old) (number_small v old c.requires.old (f 1 old (omega arith))) in
    sym (ap (λ k. number_in v filled + 2 ^ k * (number_in v old / 2 ^ k)) e ∙ ap (λ k. number_in v filled + 2 ^ 64 * k) none ∙ omega arith))

pub returns : goal.returns
returns g c =
    let p = c.args.part in
    let filled = c.args.filled in
    let old = c.args.old in
    let from = c.args.from in
    let high = c.in_ok-high.high in
    let out = c.in_ok-out.out in
    let join = c.in_ok-out.ensures.gives no_packet in
    let x = hold_more p _ _ _ (filled ∷ old ∷ []) (filled ∷ old ∷ []) (old ∷ []) always always always _ (64 - from) high (hold_none p _ (filled ∷ old ∷ []) always) c.in_ok-high.ensures (λ ins h. all_one (IsAvailable ins) old (h 1 old (omega arith))) (λ v f k. tt) in
    let y = hold_more p _ _ _ (filled ∷ old ∷ []) (high ∷ filled ∷ old ∷ []) (high ∷ filled ∷ []) always _ always _ 64 out x join (λ ins h. all_two (IsAvailable ins) high filled (h 0 high (omega arith)) (h 1 filled (omega arith))) (λ v f k. tt) in
    let most : from ≤ 64 = c.requires.inside in
    hold_gives p _ _ (filled ∷ old ∷ []) (out ∷ high ∷ filled ∷ old ∷ []) always _ _ 64 out y join.operand join.bits (λ ins h. h 0 out (omega arith))
    (λ v f k.
    k.1
    ∙ join_bits no_packet (number_in v high) (number_in v filled) from (64 - from) 64 (omega arith) (omega arith) (bits_below v high (64 - from) c.in_ok-high.ensures.bits (f 1 high (omega arith))) (bits_below v filled from c.requires.bits (f 2 filled (omega arith)))
    ∙ ap (λ z. number_in v filled + 2 ^ from * z) (k.0.1 ∙ high_bits (number_in v old) from most (number_small v old c.requires.old (f 3 old (omega arith)))))
