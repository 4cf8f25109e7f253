use Rattle.operator_cells.proofs.Growing.{grown, makes_after}
use Rattle.operator_cells.proofs.Numbers.{negated_is}
use Rattle.std.proofs.Common.{arith}
use Rattle.operator_cells.proofs.RisingLaws.{stand_none, stand_more, rises_then}
use Rattle.operator_cells.proofs.working.negate.Goals as goal

pub returns-clause-makes : goal.returns-clause-makes
returns-clause-makes c =
    let x = c.in_ok-x.ensures.makes in
    let z = c.in_ok-zero.ensures.makes in
    makes_after _ _ _ _ _ _ (grown _ _ _ x.grows z.grows) (rw c.bits.ensures at c.in_ok-c.ensures.makes)
    (λ packet v r. negated_is packet c.args.width (v c.args.a) (v c.in_ok-zero.zero) (v c.in_ok-x.x) (z.value packet v r) (x.value packet v (z.grows.run packet v r)))

pub returns-clause-rises : goal.returns-clause-rises
returns-clause-rises c = rises_then (stand_more (stand_more stand_none c.in_ok-x.ensures.rises (λ row p. omega arith)) c.in_ok-zero.ensures.rises (λ row p. omega arith)) c.in_ok-c.ensures.rises (λ row p. omega arith)
