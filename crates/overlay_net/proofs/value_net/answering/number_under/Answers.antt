use Rattle.std.specs.Prelude.{if◌then◌else◌}
use Rattle.std.proofs.Common.{◌≡◌, ◌*◌, ◌/◌, [], ◌∷◌, ◌∙◌, ap, refl, arith}
use Rattle.block_core.proofs.list_laws_laws.AllLaws.{all_one, all_three}
use Rattle.hazard_core.specs.cell_core.Cells.{bits_from, on}
use Rattle.cell_nets.specs.declared.operand.Operand.TheVariants.{Known}
use Rattle.cell_nets.specs.Operands.{number_in, IsAvailable}
use Rattle.cell_nets.specs.Wires.{always}
use Rattle.hazard_core.specs.Commits.{word_at}
use Rattle.overlay_net.proofs.ValueNet.Holding.{hold_none, hold_more, hold_gives}
use Rattle.overlay_net.proofs.ValueNet.ByteLaws.{number_is}
use Rattle.overlay_net.proofs.value_net.answering.number_under.Goals as goal

pub returns : goal.returns
returns g c = λ n value b.
    let p = c.args.part in
    let under = c.args.under in
    let word = c.args.word in
    let number = c.in_ok-number.number in
    let out = c.in_ok-out.out in
    let args = under ∷ word ∷ [] in
    let x = hold_more p _ _ _ args args (word ∷ []) (λ v. number_in v word ≡ word_at value (c.args.at / 8)) (λ v. number_in v word ≡ word_at value (c.args.at / 8)) always _ _ number (hold_none p _ args (λ v. number_in v word ≡ word_at value (c.args.at / 8))) c.in_ok-number.ensures (λ ins h. all_one (IsAvailable ins) word (h 1 word (omega arith))) (λ v f k. tt) in
    let y = hold_more p _ _ _ args (number ∷ args) (under ∷ number ∷ Known 0 ∷ []) (λ v. number_in v word ≡ word_at value (c.args.at / 8)) _ always _ c.args.width out x c.in_ok-out.ensures (λ ins h. all_three (IsAvailable ins) under number (Known 0) (h 1 under (omega arith)) (h 0 number (omega arith)) tt) (λ v f k. tt) in
    hold_gives p _ _ args (out ∷ number ∷ args) (λ v. number_in v word ≡ word_at value (c.args.at / 8)) _ _ c.args.width out y c.in_ok-out.ensures.operand c.in_ok-out.ensures.bits (λ ins h. h 0 out (omega arith))
    (λ v f k.
    k.1
    ∙ ap (λ m. bits_from (if on (number_in v under) then m else 0) c.args.from c.args.width)
    (k.0.1 ∙ number_is n value c.args.at c.args.bytes c.first_bit-first.result (c.args.bytes * 8) (c.args.at / 8) (number_in v word) b c.requires.one refl c.first_bit-first.ensures (omega arith) k.0.0))
