use Rattle.std.proofs.Common.{◌∙◌, sym, ap, subst, map, take, arith, ◌++◌, [], ◌∷◌, refl}
use Rattle.std.proofs.lemmas.List.{map_more, map-append}
use Rattle.net_core.specs.View.{assign_of}
use Rattle.net_optimize.specs.SharedExpressions.Standing.{AreShown}
use Rattle.net_optimize.proofs.SharedExpressions.ListLemmas.{shown_append}
use Rattle.net_optimize.proofs.shared_expressions.statements.rewritten_assigns.Goals as goal

pub loop-assign-preserved : goal.loop-assign-preserved
loop-assign-preserved c v u st =
    let l = c.loop-assign in
    let a = c.assign-item.result in
    let before = map assign_of (take l.assign-index c.args.assigns.now) in
    let old = map_more assign_of c.args.assigns.now l.assign-index a (omega arith) ∙ ap (λ x. before ++ assign_of x ∷ []) (sym c.assign-item.is) in
    let new = ap (map assign_of) c.in_ok-push.ensures.items ∙ map-append assign_of l.all.items _ in
    subst (λ xs. AreShown v u xs (map assign_of c.push.new.self.items)) (sym old)
    (subst (λ ys. AreShown v u (before ++ assign_of a ∷ []) ys) (sym new) (shown_append v u before (map assign_of l.all.items) (assign_of a) _ (l.invariant v u st) refl (c.in_ok-value.ensures v u st)))
