use Rattle.std.proofs.Common.{◌∙◌, sym, ap, map}
use Rattle.net_core.specs.View.{tree_of, statement_of}
use Rattle.net_core.specs.Clock.{edge}
use Rattle.net_optimize.specs.Lists.{guarded, last_done}
use Rattle.net_optimize.proofs.JoinLemmas.{edge_behind, guarded_behind}
use Rattle.net_optimize.proofs.joining.with_guarded.Goals as goal

pub returns-then-is_same : goal.returns-then-is_same
returns-then-is_same c v s =
    let before = edge v (map statement_of c.args.list.first.items) s in
    guarded_behind v (tree_of c.in-Some.guarded.condition) (tree_of c.args.condition) c.in-Some.guarded.body.items c.args.body.items c.append.new.self.items before (c.is_same.ensures c.if-is_same.true) c.in_ok-append.ensures.items
    ∙ sym (ap (λ l. guarded v (tree_of c.args.condition) (map statement_of c.args.body.items) (last_done v l before)) c.in-Some.is)

pub returns-in-Some : goal.returns-in-Some
returns-in-Some c v s =
    let before = edge v (map statement_of c.args.list.first.items) s in
    ap (guarded v (tree_of c.args.condition) (map statement_of c.args.body.items))
    (edge_behind v _ _ c.in_ok-before.before s c.in_ok-push.ensures.items ∙ c.in_ok-before.ensures v before ∙ sym (ap (λ l. last_done v l before) c.in-Some.is))
