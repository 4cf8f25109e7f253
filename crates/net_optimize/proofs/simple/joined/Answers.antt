use Rattle.std.proofs.Common.{◌∙◌, sym, ap}
use Rattle.net_core.specs.View.{tree_of}
use Rattle.net_core.specs.Value.{value, apply}
use Rattle.net_optimize.proofs.ValueLemmas.{or_nothing}
use Rattle.net_optimize.proofs.simple.joined.Goals as goal

pub returns : goal.returns
returns c v =
    or_nothing (value v (tree_of c.args.a)) (value v (tree_of c.args.b)) (ap (λ b. (value v (tree_of b)).value) c.in-Or-Const.is-1 ∙ c.if-word-eq0.true)
    ∙ ap (λ o. apply o (value v (tree_of c.args.a)) (value v (tree_of c.args.b))) (sym c.in-Or-Const.is-0)
