use Rattle.std.proofs.Common.{◌≡◌, ap, arith, rules}
use Rattle.net_optimize.proofs.PartLemmas.{bits_joined}
use Rattle.net_optimize.proofs.concatenation.one_part.Goals as goal

pub returns-then-above-below-eq1 : goal.returns-then-above-below-eq1
returns-then-above-below-eq1 c v =
    let a = c.in_ok-above.above in
    let b = c.in_ok-below.below in
    let same : a.net ≡ b.net = search rules in
    bits_joined (v.net a.net) (v.net b.net) _ _ a.high a.low b.high b.low (c.in_ok-above.ensures v) (c.in_ok-below.ensures v) (ap v.net same) (omega arith) (omega arith) (omega arith)
