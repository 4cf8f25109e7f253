use Rattle.std.specs.Prelude.{[], ◌∷◌, ◌++◌, map, take}
use Rattle.std.proofs.Common.{sym, ap, ◌∙◌, add-one, arith}
use Rattle.std.proofs.lemmas.List.{append-nil, map-append}
use Rattle.net_core.specs.Clock.{first_words}
use Rattle.net_core.specs.Width.{const_width}
use Rattle.net_core.proofs.DeclaredLaws.{words_more, no_word}
use Rattle.net_rules.proofs.net_sizes.staying.first_sizes.Goals as goal
use Rattle.net_rules.proofs.net_sizes.staying.first_sizes.Goals.{in-Register+in_ok-push, in_default}

pub loop-item-preserved : goal.loop-item-preserved
loop-item-preserved c =
    let declared = c.args.declared.now in
    let i = c.loop-item.item-index in
    let front = first_words (take i declared) in
    let more = words_more declared i (omega arith) in
    rw (add-one, more)
    (elim c.match-item.branch [
      | in-Register+in_ok-push w ↦ ap (λ x. x.items) w.sizes-is ∙ w.in_ok-push.ensures.items ∙ ap (λ ns. ns ++ w.const_width.result ∷ []) c.loop-item.invariant ∙ ap (λ n. map const_width front ++ n ∷ []) w.const_width.ensures
          ∙ sym (map-append const_width front (w.in-Register.word ∷ [])) ∙ sym (ap (λ d. map const_width (front ++ first_words (d ∷ []))) w.in-Register.is)
      | in_default w ↦ ap (λ x. x.items) w.sizes-is ∙ c.loop-item.invariant ∙ ap (map const_width) (sym (append-nil front) ∙ sym (ap (λ ws. front ++ ws) (no_word _ w.in_default.not-Register)))
    ])
