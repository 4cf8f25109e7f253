use Rattle.std.proofs.Common.{◌∙◌, ap, map}
use Rattle.std.proofs.lemmas.Result.{IfOk-weaker}
use Rattle.net_core.specs.View.{statement_of}
use Rattle.net_core.specs.Clock.{done, all_done}
use Rattle.net_optimize.proofs.JoinLemmas.{all_done_edge}
use Rattle.net_optimize.proofs.making.block_of.Goals as goal

pub returns : goal.returns
returns c v s t h =
    let before = rw c.in_ok-prefix.was at h in
    IfOk-weaker c.block.result _ _ (λ r e. ap (λ a. done v a s) e ∙ (ap (λ ts. all_done v ts s) c.in_ok-more.ensures ∙ (all_done_edge v (map statement_of c.in_ok-prefix.prefix.items) s ∙ before))) c.block.ensures
