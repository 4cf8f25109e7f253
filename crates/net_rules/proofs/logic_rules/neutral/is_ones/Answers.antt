use Rattle.std.proofs.Common.{◌<◌, arith}
use Rattle.std.proofs.lemmas.Bool.{eqb-true}
use Rattle.net_rules.proofs.LogicRules.NeutralLemmas.{ones}
use Rattle.net_rules.proofs.logic_rules.neutral.is_ones.Goals as goal

pub returns : goal.returns
returns c h =
    let some : 0 < c.args.word.width = omega arith in
    ones c.args.word.value c.args.word.width c.from.result (eqb-true _ _ h) c.from.ensures some c.if-word-gt-MOST_BITS.false
