use Rattle.std.proofs.Common.{◌<◌, arith}
use Rattle.net_rules.proofs.LogicRules.SelectLemmas.{of_word}
use Rattle.net_rules.proofs.logic_rules.selecting.bits_of_word.Goals as goal

pub returns : goal.returns
returns c v =
    let below : c.args.high < 64 = omega arith in
    of_word c.args.word c.args.high c.args.low c.from.result c.from-2.result c.from.ensures c.from-2.ensures c.if-low-high.false below
