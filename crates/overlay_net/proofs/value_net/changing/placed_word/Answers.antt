use Rattle.std.proofs.Common.{◌≡◌, ◌*◌, ◌/◌, [], ◌∷◌, ◌∙◌, sym, arith}
use Rattle.hazard_core.specs.Commits.{word_at}
use Rattle.cell_nets.specs.Operands.{number_in}
use Rattle.cell_nets.specs.Wires.{always}
use Rattle.overlay_net.proofs.ValueNet.Holding.{step_gives, there_gives}
use Rattle.overlay_net.proofs.ValueNet.ByteLaws.{stored_is, word_left}
use Rattle.overlay_net.proofs.value_net.changing.placed_word.Goals as goal

pub returns-then-at-w : goal.returns-then-at-w
returns-then-at-w g c = λ n value b inside.
    let old = c.args.old in
    let number = c.args.number in
    there_gives c.args.part _ (old ∷ number ∷ []) (λ v. number_in v old ≡ word_at value c.args.w) _ 64 old c.requires.old c.requires.word (λ ins h. h 0 old (omega arith))
    (λ v f e. e ∙ sym (word_left n value c.args.at c.args.bytes (number_in v number) c.args.w b inside c.requires.one (λ x. omega arith)))

pub returns : goal.returns
returns g c = λ n value b inside.
    let old = c.args.old in
    let number = c.args.number in
    let same : c.args.at / 8 ≡ c.args.w = omega arith in
    step_gives c.args.part _ _ (old ∷ number ∷ []) (old ∷ number ∷ []) (λ v. number_in v old ≡ word_at value c.args.w) always _ _ 64 c.in_ok-out.out c.in_ok-out.ensures (λ ins h. h)
    (λ v f e. (tt, stored_is n value c.args.at c.args.bytes (number_in v number) c.args.w c.first_bit-from.result (c.args.bytes * 8) (number_in v old) b inside c.requires.one same c.first_bit-from.ensures (omega arith) e))
