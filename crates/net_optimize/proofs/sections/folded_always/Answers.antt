use Rattle.std.proofs.Common.{◌∙◌, sym, ap, map, take, ◌++◌, [], ◌∷◌, arith}
use Rattle.std.proofs.lemmas.List.{map_more}
use Rattle.net_core.specs.View.{statement_of}
use Rattle.net_core.specs.Clock.{done, edge}
use Rattle.net_optimize.specs.Lists.{joined_done}
use Rattle.net_optimize.proofs.ListLemmas.{edge_append}
use Rattle.net_optimize.proofs.sections.folded_always.Goals as goal
use Rattle.net_optimize.proofs.sections.folded_always.Goals.{then-not-is_idle+in_ok-all, else-not-is_idle}

pub loop-stmt-preserved : goal.loop-stmt-preserved
loop-stmt-preserved c v s known =
    let l = c.loop-stmt in
    let a = c.stmt-item.result in
    let old = map_more statement_of c.args.always.now l.stmt-index a (omega arith) ∙ ap (λ x. map statement_of (take l.stmt-index c.args.always.now) ++ statement_of x ∷ []) (sym c.stmt-item.is) in
    let before = ap (λ xs. edge v xs s) old ∙ edge_append v (map statement_of (take l.stmt-index c.args.always.now)) (statement_of a ∷ []) s in
    let so_far = l.invariant v s known in
    elim c.if-not-is_idle.branch [
      | then-not-is_idle+in_ok-all w ↦
          ap (λ z. joined_done v z s) w.all-is ∙ w.in_ok-all.ensures v s known ∙ w.only.ensures v (joined_done v l.all s) ∙ ap (done v (statement_of a)) so_far ∙ sym before
      | else-not-is_idle w ↦ ap (λ z. joined_done v z s) w.all-is ∙ so_far ∙ sym (c.is_idle.ensures w.if-not-is_idle.false v _) ∙ sym before
    ]
