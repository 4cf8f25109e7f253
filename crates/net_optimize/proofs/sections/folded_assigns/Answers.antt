use Rattle.std.proofs.Common.{◌∙◌, sym, ap, subst, map, take, arith, ◌++◌, [], ◌∷◌, refl}
use Rattle.std.proofs.lemmas.List.{map_more, map-append}
use Rattle.net_core.specs.View.{assign_of}
use Rattle.net_optimize.specs.Folding.{AreSameAssigns}
use Rattle.net_optimize.proofs.ListLemmas.{assigns_append}
use Rattle.net_optimize.proofs.sections.folded_assigns.Goals as goal

pub loop-assign-preserved : goal.loop-assign-preserved
loop-assign-preserved c v known =
    let l = c.loop-assign in
    let a = c.assign-item.result in
    let old = map_more assign_of c.args.assigns.now l.assign-index a (omega arith) ∙ ap (λ x. map assign_of (take l.assign-index c.args.assigns.now) ++ assign_of x ∷ []) (sym c.assign-item.is) in
    let new = ap (map assign_of) c.in_ok-push.ensures.items ∙ map-append assign_of l.all.items _ in
    subst (λ xs. AreSameAssigns v xs (map assign_of c.push.new.self.items)) (sym old)
    (subst (λ ys. AreSameAssigns v (map assign_of (take l.assign-index c.args.assigns.now) ++ assign_of a ∷ []) ys) (sym new)
    (assigns_append v (map assign_of (take l.assign-index c.args.assigns.now)) (map assign_of l.all.items) (assign_of a) _ (l.invariant v known) refl (c.in_ok-value.ensures v known)))
