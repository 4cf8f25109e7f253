use Rattle.std.proofs.Common.{◌≡◌, sym, subst}
use Rattle.std.proofs.lemmas.Bool.{eqb-true}
use Rattle.net_core.specs.Value.{apply}
use Rattle.net_rules.proofs.LogicRules.NeutralLemmas.{masks_leave, sums_leave, and_ones}
use Rattle.net_rules.proofs.logic_rules.neutral.leaves_first.Goals as goal

pub returns-in-Or : goal.returns-in-Or
returns-in-Or c h a fit = masks_leave c.args.op a c.args.word c.in-Or.is (eqb-true _ _ h)

pub returns-then-size-gt0 : goal.returns-then-size-gt0
returns-then-size-gt0 c h a fit = sums_leave c.args.op c.args.size a c.args.word c.in-Add.is c.if-size-gt0.true fit (eqb-true _ _ h)

pub returns-then-word-size : goal.returns-then-word-size
returns-then-word-size c h a fit =
    let test = c.if-word-size.true in
    subst (λ o. apply o a c.args.word ≡ a) (sym c.in-And.is) (and_ones c.args.size a c.args.word test.0 fit test.1 (c.is_ones.ensures h))
