use Rattle.std.proofs.Common.{◌∙◌, ap, map}
use Rattle.net_core.specs.View.{statement_of}
use Rattle.net_core.specs.Clock.{done, all_done}
use Rattle.net_optimize.proofs.JoinLemmas.{all_done_edge}
use Rattle.net_optimize.proofs.joining.one.Goals as goal

pub returns : goal.returns
returns c v s = ap (λ t. done v t s) c.in_ok-whole.ensures ∙ ap (λ ts. all_done v ts s) c.in_ok-all.ensures ∙ all_done_edge v (map statement_of c.args.body.items) s
