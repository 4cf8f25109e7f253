use Rattle.std.proofs.Common.{◌≡◌, ◌<◌, sym, subst, arith}
use Rattle.std.proofs.lemmas.Bool.{eqb-true}
use Rattle.net_core.specs.Value.{apply}
use Rattle.net_rules.proofs.LogicRules.NeutralLemmas.{all_leave_before, and_ones_before}
use Rattle.net_rules.proofs.logic_rules.neutral.leaves_second.Goals as goal

pub returns-in-Or : goal.returns-in-Or
returns-in-Or c h b fit =
    let some : 0 < c.args.size = omega arith in
    all_leave_before c.args.op c.args.size c.args.word b c.in-Or.is some fit c.if-word-size.false (eqb-true _ _ h)

pub returns-in-And : goal.returns-in-And
returns-in-And c h b fit =
    let some : 0 < c.args.size = omega arith in
    subst (λ o. apply o c.args.word b ≡ b) (sym c.in-And.is) (and_ones_before c.args.size c.args.word b some fit c.if-word-size.false (c.is_ones.ensures h))
