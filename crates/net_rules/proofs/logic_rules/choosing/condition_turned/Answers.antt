use Rattle.std.proofs.Common.{◌∙◌, sym, ap, true}
use Rattle.net_core.specs.View.{tree_of}
use Rattle.net_core.specs.Value.{bit, value, conditional}
use Rattle.net_rules.proofs.LogicRules.FlagLemmas.{opposite}
use Rattle.net_rules.proofs.logic_rules.choosing.condition_turned.Goals as goal

pub returns : goal.returns
returns c v fit =
    let x = value v (tree_of c.args.c.now) in
    c.in-Some.ensures v fit ∙ opposite x (c.is_flag.ensures c.if-is_flag.true v fit)
    ∙ ap (λ w. conditional x w (bit true)) (sym (c.in-Some-false.ensures v ∙ ap bit c.in-Some-false.field-0-test))
    ∙ ap (conditional x (value v (tree_of c.args.a.now))) (sym (c.in-Some-true.ensures v ∙ ap bit c.in-Some-true.field-0-test))
