use Rattle.std.proofs.Common.{◌+◌, ap, sym, ◌∙◌, subst, drop, arith}
use Rattle.std.proofs.lemmas.List.{drop_more, drop_all}
use Rattle.net_core.specs.Clock.{first_words, first_memories}
use Rattle.net_optimize.specs.Renumber.{kept}
use Rattle.net_optimize.proofs.KeptLists.{IsDeclared, register_kept, register_dropped, other_kept, moved, all_declared}
use Rattle.net_optimize.proofs.kept.kept_declared.Goals as goal
use Rattle.net_optimize.proofs.kept.kept_declared.Goals.{then-is_register, then-is_kept+in_ok-push, else-is_kept, else-is_register+in_ok-push-2}

pub loop-item-preserved : goal.loop-item-preserved
loop-item-preserved c =
    let l = c.loop-item in
    let keep = c.args.keep.now in
    let rest = drop (l.item-index + 1) c.args.declared.now in
    let h = subst (λ d. IsDeclared keep l.all.items d l.register (kept keep (first_words c.args.declared.now)) (first_memories c.args.declared.now)) (drop_more c.args.declared.now l.item-index _ c.loop-item-test.true) l.invariant.done in
    elim c.if-is_register.branch [
      | then-is_register w ↦ let is = sym c.is_register.ensures ∙ w.if-is_register.true in
          elim w.if-is_kept.branch [
            | then-is_kept+in_ok-push w' ↦ record {
              below = omega (arith, w.register-is, l.invariant.below);
              done = moved keep _ _ rest _ _ _ _ (ap (λ z. z.items) w.all-is ∙ ap (λ z. z.items) w'.all-is ∙ w'.in_ok-push.ensures.items) w.register-is
                  (register_kept keep l.all.items rest l.register _ _ _ is (sym w.is_kept.ensures ∙ w'.if-is_kept.true) h);
            }
            | else-is_kept w' ↦ record {
              below = omega (arith, w.register-is, l.invariant.below);
              done = moved keep _ _ rest _ _ _ _ (ap (λ z. z.items) w.all-is ∙ ap (λ z. z.items) w'.all-is) w.register-is
                  (register_dropped keep l.all.items rest l.register _ _ _ is (sym w.is_kept.ensures ∙ w'.if-is_kept.false) h);
            }
          ]
      | else-is_register+in_ok-push-2 w ↦ record {
        below = omega (arith, w.register-is, l.invariant.below);
        done = moved keep _ _ rest _ _ _ _ (ap (λ z. z.items) w.all-is ∙ w.in_ok-push-2.ensures.items) w.register-is
            (other_kept keep l.all.items rest l.register _ _ _ (sym c.is_register.ensures ∙ w.if-is_register.false) h);
      }
    ]

pub returns-clause-words : goal.returns-clause-words
returns-clause-words c =
    let l = c.loop-item in
    (all_declared c.args.keep.now l.all.items _ l.register _ _ (drop_all l.item-index c.args.declared.now c.loop-item-test.false) l.invariant.done).0
