use Rattle.std.proofs.Common.{◌∙◌, sym, ap, map, take, arith, ◌++◌, [], ◌∷◌, refl}
use Rattle.std.proofs.lemmas.List.{map_more}
use Rattle.net_core.specs.View.{assign_of}
use Rattle.net_optimize.specs.SimpleLogic.Simple.{IsSameAssign}
use Rattle.net_optimize.proofs.SimpleLogic.ListLemmas.{each_pushed}
use Rattle.net_optimize.proofs.simple_logic.statements.simple_assigns.Goals as goal

pub loop-assign-preserved : goal.loop-assign-preserved
loop-assign-preserved c v hold =
    let l = c.loop-assign in
    let a = c.assign-item.result in
    let before = map assign_of (take l.assign-index c.args.assigns.now) in
    let whole = map_more assign_of c.args.assigns.now l.assign-index a (omega arith) ∙ ap (λ x. before ++ assign_of x ∷ []) (sym c.assign-item.is) in
    each_pushed (IsSameAssign v) assign_of before l.all.items _ (assign_of a) _ _ whole c.in_ok-push.ensures.items (l.invariant v hold) (refl, c.in_ok-value.ensures v hold)
