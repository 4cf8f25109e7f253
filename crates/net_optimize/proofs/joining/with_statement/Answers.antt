use Rattle.std.proofs.Common.{◌∙◌, ap}
use Rattle.net_core.specs.View.{statement_of}
use Rattle.net_core.specs.Clock.{done}
use Rattle.net_optimize.proofs.JoinLemmas.{edge_behind}
use Rattle.net_optimize.proofs.joining.with_statement.Goals as goal

pub returns : goal.returns
returns c v s = edge_behind v _ _ c.args.stmt s c.in_ok-push.ensures.items ∙ ap (done v (statement_of c.args.stmt)) (c.in_ok-first.ensures v s)
