use Rattle.std.specs.Prelude.{drop}
use Rattle.std.proofs.Common.{◌*◌, ◌<◌, ◌≤◌, [], ◌∷◌, sym, arith}
use Rattle.block_core.proofs.list_laws_laws.AllLaws.{all_one}
use Rattle.cell_nets.specs.Operands.{number_in, IsAvailable}
use Rattle.cell_nets.specs.Wires.{always}
use Rattle.overlay_net.specs.ValueNet.Lists.{numbers_in}
use Rattle.overlay_net.proofs.ValueNet.Holding.{hold_none, hold_more, hold_gives}
use Rattle.cell_nets.proofs.GiveLaws.{known_gives}
use Rattle.cell_nets.proofs.PartLaws.{bits_below}
use Rattle.overlay_net.proofs.ValueNet.ByteLaws.{word_past}
use Rattle.overlay_net.proofs.ValueNet.FollowLemmas.{value_is}
use Rattle.overlay_net.proofs.value_net.following.value_word.Goals as goal

pub returns-then-count-eq0 : goal.returns-then-count-eq0
returns-then-count-eq0 g c =
    let past : c.args.bytes ≤ 8 * c.args.w = omega (arith, c.word_bytes-count.ensures) in
    known_gives c.args.part _ c.args.operands.now always _ 64 0 (omega arith) (omega arith) (λ v f n. sym (word_past c.args.bytes (drop 1 (numbers_in v c.args.operands.now)) c.args.w past))

pub returns : goal.returns
returns g c =
    let p = c.args.part in
    let args = c.args.operands.now in
    let word = c.operand_at-word.result in
    let low = c.in_ok-low.low in
    let out = c.in_ok-out.out in
    let m = c.word_bytes-count.result in
    let there : 8 * c.args.w < c.args.bytes = omega (arith, c.word_bytes-count.ensures) in
    let x = hold_more p _ _ _ args args (word ∷ []) always always always _ (m * 8) low (hold_none p _ args always) c.in_ok-low.ensures (λ ins h. all_one (IsAvailable ins) word (c.operand_at-word.ensures.available ins h)) (λ v f k. tt) in
    let y = hold_more p _ _ _ args (low ∷ args) (low ∷ []) always _ always _ 64 out x c.in_ok-out.ensures (λ ins h. all_one (IsAvailable ins) low (h 0 low (omega arith))) (λ v f k. tt) in
    hold_gives p _ _ args (out ∷ low ∷ args) always _ _ 64 out y c.in_ok-out.ensures.operand c.in_ok-out.ensures.bits (λ ins h. h 0 out (omega arith))
    (λ v f k.
    value_is v args c.args.bytes c.args.w m (m * 8) (number_in v word) (number_in v low) (number_in v out) there c.requires.words (c.word_bytes-count.ensures) (omega arith) (bits_below v low (m * 8) c.in_ok-low.ensures.bits (f 1 low (omega arith)))
    (c.operand_at-word.ensures.number v) k.0.1 k.1)
