use Rattle.std.proofs.Common.{◌∙◌, sym, ap, List, map, take, arith, ◌++◌, [], ◌∷◌}
use Rattle.std.proofs.lemmas.List.{map_more}
use Rattle.net_core.specs.declared.tree.Net.{Net}
use Rattle.net_core.specs.declared.tree.Stmt.{Stmt}
use Rattle.net_core.specs.View.{statement_of}
use Rattle.net_core.specs.Clock.{done, edge}
use Rattle.net_optimize.proofs.SimpleLogic.ListLemmas.{edge_push, edge_append}
use Rattle.net_optimize.proofs.simple_logic.statements.simple_always.Goals as goal

pub loop-stmt-preserved : goal.loop-stmt-preserved
loop-stmt-preserved c v s hold =
    let l = c.loop-stmt in
    let a = c.stmt-item.result in
    let before = map statement_of (take l.stmt-index c.args.always.now) in
    let old = map_more statement_of c.args.always.now l.stmt-index a (omega arith) ∙ ap (λ x. before ++ statement_of x ∷ []) (sym c.stmt-item.is) in
    ap (λ (xs : List (Stmt Net)). edge v (map statement_of xs) s) c.in_ok-push.ensures.items
    ∙ edge_push v l.all.items c.in_ok-simple_stmt.field-0 s ∙ c.in_ok-simple_stmt.ensures v (edge v (map statement_of l.all.items) s) hold
    ∙ ap (done v (statement_of a)) (l.invariant v s hold) ∙ sym (edge_append v before (statement_of a) s) ∙ sym (ap (λ xs. edge v xs s) old)
