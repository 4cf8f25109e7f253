use Rattle.std.proofs.Common.{◌∙◌, sym, ap, map}
use Rattle.net_core.specs.View.{statement_of}
use Rattle.net_core.specs.Clock.{edge}
use Rattle.net_optimize.specs.Lists.{last_done}
use Rattle.net_optimize.proofs.JoinLemmas.{edge_behind}
use Rattle.net_optimize.proofs.joining.closed.Goals as goal

pub returns-in-Some : goal.returns-in-Some
returns-in-Some c v s =
    let before = edge v (map statement_of c.args.list.first.items) s in
    edge_behind v _ _ c.in_ok-last.last s c.in_ok-push.ensures.items ∙ c.in_ok-last.ensures v before ∙ sym (ap (λ l. last_done v l before) c.in-Some.is)
