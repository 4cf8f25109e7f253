use Rattle.std.proofs.Common.{◌+◌, [], ◌∷◌, arith}
use Rattle.block_core.proofs.list_laws_laws.AllLaws.{all_one, all_two}
use Rattle.cell_nets.specs.Operands.{number_in, IsAvailable}
use Rattle.cell_nets.specs.Wires.{always}
use Rattle.overlay_net.proofs.ValueNet.Holding.{hold_none, hold_more, hold_gives}
use Rattle.overlay_net.proofs.ValueNet.BitLemmas.{parts_are}
use Rattle.overlay_net.proofs.value_net.placing.with_bits.Goals as goal

pub returns : goal.returns
returns g c =
    let p = c.args.part in
    let old = c.args.old in
    let new = c.args.new in
    let from = c.args.from in
    let width = c.args.width in
    let piece = c.in_ok-piece.piece in
    let filled = c.in_ok-filled.filled in
    let out = c.in_ok-out.out in
    let x = hold_more p _ _ _ (old ∷ new ∷ []) (old ∷ new ∷ []) (new ∷ []) always always always _ width piece (hold_none p _ (old ∷ new ∷ []) always) c.in_ok-piece.ensures (λ ins h. all_one (IsAvailable ins) new (h 1 new (omega arith))) (λ v f k. tt) in
    let y = hold_more p _ _ _ (old ∷ new ∷ []) (piece ∷ old ∷ new ∷ []) (piece ∷ old ∷ []) always _ always _ (from + width) filled x c.in_ok-filled.ensures (λ ins h. all_two (IsAvailable ins) piece old (h 0 piece (omega arith)) (h 1 old (omega arith))) (λ v f k. tt) in
    let z = hold_more p _ _ _ (old ∷ new ∷ []) (filled ∷ piece ∷ old ∷ new ∷ []) (filled ∷ old ∷ []) always _ always _ 64 out y c.in_ok-out.ensures (λ ins h. all_two (IsAvailable ins) filled old (h 0 filled (omega arith)) (h 2 old (omega arith))) (λ v f k. tt) in
    hold_gives p _ _ (old ∷ new ∷ []) (out ∷ filled ∷ piece ∷ old ∷ new ∷ []) always _ _ 64 out z c.in_ok-out.ensures.operand c.in_ok-out.ensures.bits (λ ins h. h 0 out (omega arith))
    (λ v f k. parts_are (number_in v old) (number_in v new) from width (number_in v piece) (number_in v filled) (number_in v out) k.0.0.1 k.0.1 k.1)
