use Rattle.std.proofs.Common.{◌≡◌, ◌*◌, ◌/◌, ◌<◌, ◌^◌, [], ◌∷◌, ◌∙◌, sym, subst, arith}
use Rattle.block_core.proofs.list_laws_laws.AllLaws.{all_one, all_two, all_three}
use Rattle.hazard_core.specs.Commits.{word_at}
use Rattle.cell_nets.specs.Operands.{number_in, IsAvailable}
use Rattle.cell_nets.specs.Wires.{always}
use Rattle.cell_nets.proofs.PartLaws.{bits_below}
use Rattle.overlay_net.specs.ValueNet.Words.{change_bits}
use Rattle.overlay_net.proofs.ValueNet.Holding.{hold_none, hold_more, hold_gives, there_gives}
use Rattle.overlay_net.proofs.ValueNet.ChangeLaws.{wide_one, changed_is, unchanged_is}
use Rattle.overlay_net.proofs.value_net.changing.changed_word.Goals as goal

pub returns-then-at-w : goal.returns-then-at-w
returns-then-at-w g c = λ n value b inside.
    let old = c.args.old in
    let source = c.args.source in
    let compare = c.args.compare in
    there_gives c.args.part _ (old ∷ source ∷ compare ∷ []) (λ v. number_in v old ≡ word_at value c.args.w) _ 64 old c.requires.old c.requires.word (λ ins h. h 0 old (omega arith))
    (λ v f e. e ∙ sym (unchanged_is n value c.args.atomic c.args.at c.args.w (number_in v source) (number_in v compare) b inside (wide_one c.args.atomic.wide c.args.at c.requires.aligned) (λ x. omega arith)))

pub returns : goal.returns
returns g c = λ n value b inside.
    let p = c.args.part in
    let a = c.args.atomic in
    let old = c.args.old in
    let source = c.args.source in
    let compare = c.args.compare in
    let number = c.in_ok-number.number in
    let new = c.in_ok-new.new in
    let out = c.in_ok-out.out in
    let args = old ∷ source ∷ compare ∷ [] in
    let w = c.change_bytes-bytes.result * 8 in
    let e : w ≡ change_bits a.wide = omega (arith, c.change_bytes-bytes.ensures.value) in
    let same : c.args.at / 8 ≡ c.args.w = omega arith in
    let x = hold_more p _ _ _ args args (old ∷ []) (λ v. number_in v old ≡ word_at value c.args.w) (λ v. number_in v old ≡ word_at value c.args.w) always _ w number (hold_none p _ args (λ v. number_in v old ≡ word_at value c.args.w)) c.in_ok-number.ensures (λ ins h. all_one (IsAvailable ins) old (h 0 old (omega arith))) (λ v f k. tt) in
    let y = hold_more p _ _ _ args (number ∷ args) (number ∷ source ∷ compare ∷ []) (λ v. number_in v old ≡ word_at value c.args.w) _ _ _ (change_bits a.wide) new x c.in_ok-new.ensures (λ ins h. all_three (IsAvailable ins) number source compare (h 0 number (omega arith)) (h 2 source (omega arith)) (h 3 compare (omega arith)))
    (λ v f k. subst (λ m. number_in v number < 2 ^ m) e (bits_below v number w c.in_ok-number.ensures.bits (f 0 number (omega arith)))) in
    let z = hold_more p _ _ _ args (new ∷ number ∷ args) (old ∷ new ∷ []) (λ v. number_in v old ≡ word_at value c.args.w) _ always _ 64 out y c.in_ok-out.ensures (λ ins h. all_two (IsAvailable ins) old new (h 2 old (omega arith)) (h 0 new (omega arith))) (λ v f k. tt) in
    hold_gives p _ _ args (out ∷ new ∷ number ∷ args) (λ v. number_in v old ≡ word_at value c.args.w) _ _ 64 out z c.in_ok-out.ensures.operand c.in_ok-out.ensures.bits (λ ins h. h 0 out (omega arith))
    (λ v f k.
    changed_is n value a c.args.at c.args.w (number_in v source) (number_in v compare) c.first_bit-from.result w (number_in v old) (number_in v number) (number_in v new) (number_in v out) b inside (wide_one a.wide c.args.at c.requires.aligned) same c.first_bit-from.ensures (omega (arith, c.change_bytes-bytes.ensures.value))
    k.0.0.0 k.0.0.1 k.0.1 k.1)
