use Rattle.std.proofs.Common.{add-one, arith, ap, ◌∙◌, sym, ◌++◌, ◌∷◌, [], take}
use Rattle.std.proofs.lemmas.List.{append-nil}
use Rattle.net_core.specs.Clock.{first_words}
use Rattle.net_core.proofs.DeclaredLaws.{words_more, no_word}
use Rattle.register_rules.proofs.equal_registers.repeating.declared_words.Goals as goal
use Rattle.register_rules.proofs.equal_registers.repeating.declared_words.Goals.{in-Register+in_ok-push, in_default}

pub loop-item-preserved : goal.loop-item-preserved
loop-item-preserved c =
    let declared = c.args.declared.now in
    let i = c.loop-item.item-index in
    let front = first_words (take i declared) in
    let more = words_more declared i (omega arith) in
    rw (add-one, more)
    (elim c.match-item.branch [
      | in-Register+in_ok-push w ↦ ap (λ x. x.items) w.words-is ∙ w.in_ok-push.ensures.items ∙ ap (λ ws. ws ++ w.in-Register.word ∷ []) c.loop-item.invariant ∙ sym (ap (λ d. front ++ first_words (d ∷ [])) w.in-Register.is)
      | in_default w ↦ ap (λ x. x.items) w.words-is ∙ c.loop-item.invariant ∙ sym (append-nil front) ∙ sym (ap (λ ws. front ++ ws) (no_word _ w.in_default.not-Register))
    ])
